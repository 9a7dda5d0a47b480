pub mod Scan
pub mod Cut
pub mod Settle
pub mod TwoWay
