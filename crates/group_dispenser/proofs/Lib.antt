pub mod Totals
pub mod TicketLaws
pub mod Keeps
pub mod Gathered
