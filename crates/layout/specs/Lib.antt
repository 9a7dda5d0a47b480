-- What the contracts of the layout cite, and what is known of a feasible plan's.
pub mod Rows
