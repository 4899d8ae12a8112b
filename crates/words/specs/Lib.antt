pub mod NextIs
