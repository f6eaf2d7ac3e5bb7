-- The inner types of a node stand one after the other, and the last one ends it.
use mathlib.Core.Path.{sym, ◌∙◌}
use native.Mathlib.Omega.{arith}
use Rattle.parts.proofs.Promise.{type_first, type_second, node_leaf, node_one, node_two, end_leaf, end_one, end_two}
use Rattle.types.specs.Nodes.{Inner}
use Rattle.types.proofs.nodes.inner_types.Goals as goal

pub returns : goal.returns
unfolding Inner
returns c = λ left s at h t.
    let k = (rw (← t) at c.inner_types.ensures) in
    record {
      none = λ e. record { tree = node_leaf s at left h (sym k ∙ e); end = end_leaf s at left h (sym k ∙ e) };
      first = λ f. type_first s at left h (λ z. f (k ∙ z));
      single = λ e.
          record {
            tree = node_one s at left h (λ z. absurd (omega (arith, k, z))) (sym k ∙ e);
            end = end_one s at left h (sym k ∙ e);
          };
      second = λ f g. type_second s at left h (λ z. f (k ∙ z)) (λ z. g (k ∙ z));
      pair = λ f g.
          record {
            tree = node_two s at left h (λ z. f (k ∙ z)) (λ z. g (k ∙ z));
            end = end_two s at left h (λ z. f (k ∙ z)) (λ z. g (k ∙ z));
          };
    }
