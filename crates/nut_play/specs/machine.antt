pub mod Next
pub mod Lacking
pub mod Play
