pub mod Due
pub mod Keys
pub mod Light
pub mod Looking
pub mod TurnLaws
