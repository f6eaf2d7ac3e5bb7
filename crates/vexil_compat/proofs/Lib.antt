-- Values: the values of a function in a buffer, place by place, and what stands at each.
pub mod Values
