pub mod Asking
pub mod FewTickets
pub mod Opening
