pub mod Hypervisor
