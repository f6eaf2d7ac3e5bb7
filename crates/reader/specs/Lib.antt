-- Answer: what the reader's answer says of the definitions of `image`.
pub mod Answer
