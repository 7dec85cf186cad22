pub mod Examples
pub mod PastExamples
pub mod HaltingExamples
