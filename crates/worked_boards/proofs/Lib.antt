pub mod Computed
pub mod Nobody
