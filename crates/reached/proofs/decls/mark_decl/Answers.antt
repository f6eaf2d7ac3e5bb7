use Rattle.reached.proofs.Declared.{message_marked, union_marked, newtype_marked}
use Rattle.reached.proofs.decls.mark_decl.Goals as goal

pub returns-in-Message : goal.returns-in-Message
returns-in-Message c = message_marked c.in-Message.message c.in-Message.ensures c.fields.ensures c.mark_fields.ensures

pub returns-in-Union : goal.returns-in-Union
returns-in-Union c = union_marked c.in-Union.union c.in-Union.ensures c.variants.ensures c.mark_variants.ensures

pub returns-in-Newtype : goal.returns-in-Newtype
returns-in-Newtype c = newtype_marked c.in-Newtype.newtype c.in-Newtype.ensures c.inner.result c.inner.ensures.image c.inner.ensures.tree c.mark_type.ensures
