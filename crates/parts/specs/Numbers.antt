-- The numbers that the code's enums stand for, for the crates above: `image` has them. Assumes nothing.
pub use Rattle.image.specs.Numbers.{refusal_number, side_number, kind_number, tag_number, format_number}
