pub mod Gains
pub mod Names
pub mod Passing
pub mod ExprGains
pub mod StmtGains
pub mod Params
pub mod Bodies
pub mod Variables
pub mod Serving
pub mod Expanded
pub mod Kernels
pub mod Propositions
mod WorkedTyping
