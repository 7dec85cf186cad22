pub mod Examples
pub mod DriverExamples
pub mod ReloadExamples
pub mod RightExamples
