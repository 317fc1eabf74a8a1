pub mod Ending
pub mod LoneOrders
