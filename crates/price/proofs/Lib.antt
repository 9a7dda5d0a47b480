pub mod LayoutTotal
pub mod PricedPlans
pub mod SavedPlans
