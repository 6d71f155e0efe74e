pub mod Accesses
pub mod Caches
pub mod Lines
