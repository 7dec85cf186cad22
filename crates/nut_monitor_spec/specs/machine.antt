pub mod Machine
pub mod MachineOutcome
