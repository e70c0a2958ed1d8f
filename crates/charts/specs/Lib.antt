pub mod Pictures
pub mod Cells
pub mod Recodings
pub mod Windows
pub mod Overlays
pub mod ChartRuns
pub mod Lawfulness
