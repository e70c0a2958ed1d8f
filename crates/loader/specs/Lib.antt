pub mod Held
pub mod Reading
pub mod FieldCharts
pub mod Lamps
