pub mod MonClientSaves
pub mod ClientSaves
pub mod DaemonSaves
pub mod IncomingSaves
