-- The kinds of declarations, for the crates above: `image` has them. Assumes nothing.
pub use Rattle.image.specs.Kinds.{Kind, message, enum, flags, union, newtype, config, alias, trait, impl, other}
unfoldable pub use Rattle.image.specs.Kinds.{kind_of}
