pub mod Ends
pub mod ExpressionPlan
pub mod Plan
