-- Two declarations under one name: kinds that differ are reported, and two of one kind are compared by its clause. Assumes nothing.
use mathlib.Core.Path.{◌≡◌, refl, sym, ap, ◌∙◌}
use mathlib.Core.List.{[], ◌∷◌, ◌++◌}
use Prim.Native.Nat.{ℕ, zero, suc}
use borrow.Author.Tests.{eq-eqb, ne_eqb}
use Rattle.image.specs.Schema.{Decl as Declaration}
use Rattle.image.specs.declared.kinds.Kind.{Kind}
use Rattle.parts.specs.Handles.{decl_of}
use Rattle.parts.specs.Kinds.{kind_of}
use Rattle.parts.specs.Numbers.{kind_number}
use Rattle.parts.specs.declared.handles.Decl.{Decl}
use Rattle.rules.specs.Clauses.{Context, kind_changed, compare_kind, compare_alike, compare_decls}
use Rattle.lines.specs.declared.Reading.{Reading}
use Rattle.lines.specs.Sites.{change_of}
use Rattle.lines.specs.Reports.{Reports}
use Rattle.lines.specs.declared.Report.{Report}
use Rattle.lines.specs.declared.Site.{Site}
use Rattle.lines.proofs.Reports.{reports_as, reports_then}
use Rattle.items.specs.Items.{context_of}
use Rattle.clauses.specs.Pairs.{of_first, of_last}
use Rattle.checking.specs.Decls.{of_kind, of_decls}

module _ (old new : Decl) where
  -- ---- of two kinds

  pub kinds_differ : ((decl_of old).kind ≡ (decl_of new).kind → ⊥) → (c : Site) → change_of c ∷ [] ≡ kind_changed (decl_of old) (decl_of new)
      → {a b : Report} → Reports a (change_of c ∷ []) b → Reports a (of_decls a.reading old new) b
  unfolding compare_decls
  kinds_differ n c e h = reports_as (rw (ne_eqb _ _ n) (sym e)) h

  -- ---- of one kind: what is reported before their clause, this, and what is reported after it

  kinds_agree : (reading : Reading) → (decl_of new).kind ≡ (decl_of old).kind
      → of_decls reading old new ≡ of_first reading old new ++ (of_kind reading old new ++ of_last reading old new)
  unfolding compare_decls compare_alike
  kinds_agree reading e = rw (eq-eqb _ _ (sym e))

  pub agree_reports : (decl_of new).kind ≡ (decl_of old).kind → {a b c d : Report} → Reports a (of_first a.reading old new) b
      → Reports b (of_kind b.reading old new) c → Reports c (of_last c.reading old new) d → Reports a (of_decls a.reading old new) d
  agree_reports e {a} g h k =
      reports_as (kinds_agree a.reading e)
      (reports_then (λ (r : Reading). of_kind r old new ++ of_last r old new) g (reports_then (λ (r : Reading). of_last r old new) h k))

  -- the clause of a kind
  pub kind_reports : {k : Kind} → kind_number k ≡ (decl_of old).kind → {l : Kind} → k ≡ l → {a b : Report}
      → Reports a (compare_kind (kind_of (kind_number l)) (context_of a.reading old.image new.image) (decl_of old) (decl_of new)) b
      → Reports a (of_kind a.reading old new) b
  kind_reports e q {a} h =
      reports_as
      (ap (λ (n : ℕ). compare_kind (kind_of n) (context_of a.reading old.image new.image) (decl_of old) (decl_of new)) (sym e ∙ ap kind_number q))
      h

-- past the five that have a clause
pub no_clause : (kind : ℕ) (r : Context) (a b : Declaration)
    → (kind ≡ 0 → ⊥) → (kind ≡ 1 → ⊥) → (kind ≡ 2 → ⊥) → (kind ≡ 3 → ⊥) → (kind ≡ 4 → ⊥)
    → compare_kind (kind_of kind) r a b ≡ []
unfolding compare_kind kind_of
no_clause zero r a b n₀ n₁ n₂ n₃ n₄ = absurd (n₀ refl)
no_clause (suc zero) r a b n₀ n₁ n₂ n₃ n₄ = absurd (n₁ refl)
no_clause (suc (suc zero)) r a b n₀ n₁ n₂ n₃ n₄ = absurd (n₂ refl)
no_clause (suc (suc (suc zero))) r a b n₀ n₁ n₂ n₃ n₄ = absurd (n₃ refl)
no_clause (suc (suc (suc (suc zero)))) r a b n₀ n₁ n₂ n₃ n₄ = absurd (n₄ refl)
no_clause (suc (suc (suc (suc (suc zero))))) r a b n₀ n₁ n₂ n₃ n₄ = refl
no_clause (suc (suc (suc (suc (suc (suc zero)))))) r a b n₀ n₁ n₂ n₃ n₄ = refl
no_clause (suc (suc (suc (suc (suc (suc (suc zero))))))) r a b n₀ n₁ n₂ n₃ n₄ = refl
no_clause (suc (suc (suc (suc (suc (suc (suc (suc zero)))))))) r a b n₀ n₁ n₂ n₃ n₄ = refl
no_clause (suc (suc (suc (suc (suc (suc (suc (suc (suc k))))))))) r a b n₀ n₁ n₂ n₃ n₄ = refl
