pub mod Hop
pub mod Eligible
pub mod Loops
pub mod Local
pub mod Next
pub mod Own
pub mod Said
