pub mod Laws
pub mod Logins
pub mod Origins
pub mod Fronts
