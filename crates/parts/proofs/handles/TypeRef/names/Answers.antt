use Rattle.parts.proofs.Named.{others_are}
use Rattle.parts.proofs.Laws.Trees.{type_label}
use Rattle.std.proofs.Common.{refl}
use Rattle.parts.proofs.handles.TypeRef.names.Goals as goal

pub returns-in_default : goal.returns-in_default
returns-in_default c = others_are _ _ (type_label _ _ _ c.args.self.here) _ c.tag.ensures _ c.in_default.not-Bits refl
