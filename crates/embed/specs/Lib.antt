pub mod Figures
pub mod Left
