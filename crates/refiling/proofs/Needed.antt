-- How the readings of the premise differ; and what can't be left out: without the premise the claim would be false, and what filing anew
-- keeps is seen in the report. Assumes nothing.
use mathlib.Core.Path.{◌≡◌, refl, ap, subst}
use mathlib.Core.List.{List, [], ◌∷◌}
use Prim.Native.Nat.{ℕ}
use native.Mathlib.Omega.{arith}
use lib.ListN.{length}
use Rattle.maps.specs.Lists.{All}
use Rattle.maps.specs.Reordered.{here, later, Reordered, nothing, each, EachTwo, Once}
use Rattle.maps.proofs.Reorderings.{reordered_map, reordered_then}
use Rattle.image.specs.Schema.{Schema}
use Rattle.image.specs.Words.{bytes}
use Rattle.rules.specs.Survivors.{stands_for}
use Rattle.rules.specs.Edges.{told}
use Rattle.rules.proofs.Computed.{reports}
use Rattle.refiling.specs.Refiling.{Impls, NamesOnce, entries, RefiledId, Refiled}
use Rattle.refiling.specs.Example.{listing, two_messages, unnamed, twice, turned, Readings, Needed}
use Rattle.refiling.proofs.Relation.{refilings}
use Rattle.refiling.proofs.Tables.{Rows, renumbered_by, moved_id, primitive_anew, field_anew, decl_anew}

-- ---- the readings

pub readings : Readings
unfolding reports entries NamesOnce EachTwo All Once Impls
readings = record {
  one_listed = record {
    names = (tt, tt);
    numbers = (
      record { fields = (tt, tt); variants = tt; variant_fields = tt },
      (record { fields = tt; variants = tt; variant_fields = tt }, tt),
    );
  };
  one_listed_only = λ o. omega (arith, (o.names.0.0 refl).0);
  id_once = record { names = (tt, tt); numbers = (record { fields = (tt, tt); variants = tt; variant_fields = tt }, tt) };
  id_once_only = λ o. omega (arith, (o.names.0.0 refl).0);
}

-- ---- what is needed

-- the same declarations, listed in another order
listed_anew : (s : Schema) (ids : List ℕ) → Reordered (λ i j. i ≡ j) s.ids ids → Refiled s (listing s ids)
listed_anew s ids w = let r = refilings.itself s in record {
  to = r.to;
  from = r.from;
  registry = r.registry;
  ids = reordered_map (λ i k x. subst (RefiledId s.registry s.registry r.to i) x.2 x.1) (reordered_then r.ids w);
  namespace = refl;
}

-- two fields of one number, in the other order
twice_turned : Refiled twice turned
unfolding bytes stands_for Rows
twice_turned = record {
  to = λ i. i;
  from = λ i. i;
  registry =
      renumbered_by twice.registry turned.registry (λ i. i) (λ i. i) (
        (
          _,
          refl,
          refl,
          decl_anew 0 _ (each (field_anew 3 _ (primitive_anew 9)) (each (field_anew 3 _ (primitive_anew 1)) nothing here) (later here)) nothing
              (primitive_anew 0),
        ),
        tt,
      )
      ((_, refl, refl), tt);
  ids = each (moved_id 0 refl) nothing here;
  namespace = refl;
}

pub needed : Needed
unfolding told reports
needed = record {
  messages = listed_anew two_messages (1 ∷ 0 ∷ []) (each refl (each refl nothing here) (later here));
  messages_matter = λ e. omega (arith, ap length e);
  impls = listed_anew unnamed (1 ∷ 0 ∷ []) (each refl (each refl nothing here) (later here));
  impls_matter = λ e. omega (arith, ap length e);
  ordinals = twice_turned;
  ordinals_matter = λ e. omega (arith, ap length e);
  bits_matter = λ e. omega (arith, ap length e);
  ids_matter = λ e. omega (arith, ap length e);
}
