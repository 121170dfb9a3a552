pub mod Program
pub mod Machine
pub mod Sound
