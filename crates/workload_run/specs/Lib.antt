pub mod Workload
pub mod Works
