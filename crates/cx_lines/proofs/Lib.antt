pub mod Behind
pub mod CommandLaws
pub mod Faulty
pub mod Laws
pub mod LinkLaws
pub mod NodeLaws
pub mod Pairs
pub mod SettingLaws
