mod FrontLaws
pub mod OneFront
