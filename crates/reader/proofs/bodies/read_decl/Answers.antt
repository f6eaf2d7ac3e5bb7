-- In each arm the kind is known, and so is what follows it.
use Rattle.std.proofs.Common.{◌∙◌}
use Rattle.image.specs.Kinds.{kind_of}
use Rattle.image.specs.Bodies.{message_at, enum_at, flags_at, union_at, decl_at, impl_at}
use Rattle.image.specs.Reads.{read_of, skip}
use Rattle.reader.proofs.Laws.Bodies.{closed_read, decl_named}
use Rattle.reader.proofs.bodies.read_decl.Goals as goal

pub returns-in-Message : goal.returns-in-Message
unfolding kind_of decl_at
returns-in-Message c = rw c.in-Message.is (closed_read _ message_at _ _ _ c.read_message.ensures c.close.ensures)

pub returns-in-Enum : goal.returns-in-Enum
unfolding kind_of decl_at
returns-in-Enum c = rw c.in-Enum.is (closed_read _ (enum_at _) _ _ _ c.read_enum.ensures c.close-in-Enum.ensures)

pub returns-in-Flags : goal.returns-in-Flags
unfolding kind_of decl_at
returns-in-Flags c = rw c.in-Flags.is (closed_read _ (flags_at _) _ _ _ c.read_flags.ensures c.close-in-Flags.ensures)

pub returns-in-Union : goal.returns-in-Union
unfolding kind_of decl_at
returns-in-Union c = rw c.in-Union.is (closed_read _ (union_at _) _ _ _ c.read_union.ensures c.close-in-Union.ensures)

pub returns-in-Newtype : goal.returns-in-Newtype
unfolding kind_of decl_at
returns-in-Newtype c = rw c.in-Newtype.is c.read_newtype.ensures

pub returns-in-Config : goal.returns-in-Config
returns-in-Config c = c.read_name.ensures ∙ decl_named _ _ _ c.in-Config.is

pub returns-in-Impl : goal.returns-in-Impl
unfolding kind_of decl_at impl_at read_of skip
returns-in-Impl c = rw c.in-Impl.is
