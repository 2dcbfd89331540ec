-- What each command means to do.
pub mod Build
pub mod Run
