pub mod Choice
pub mod Orders
pub mod Contract
pub mod Infos
pub mod Entry
