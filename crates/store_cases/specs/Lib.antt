pub mod Disks
