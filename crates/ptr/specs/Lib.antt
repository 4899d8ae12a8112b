pub mod Ptr
