-- Of lists that are each other's reordering, in which entries of one key are alike, what stands is alike entry by entry; and two comparisons
-- of such maps, by rules that give the same of like entries, are the same.
-- Assumes nothing.
use mathlib.Core.Path.{◌≡◌, refl, sym, ap, ◌∙◌, subst}
use mathlib.Core.Bool.{Bool, true, false, cond}
use mathlib.Core.List.Memᴰ
use mathlib.Core.List.{List, [], ◌∷◌, flat_map, Forall₂}
use Rattle.std.specs.Prelude.{Option, None, Some}
use Rattle.std.specs.Option.{option_or}
use Rattle.std.proofs.lemmas.Option.{none-some}
use Rattle.maps.specs.Orders.{Strict, same}
use Rattle.maps.specs.Keyed.{survivors, lookup}
use Rattle.maps.specs.Compare.{Rules, unmatched, matched, between, compare}
use Rattle.maps.specs.Reordered.{Reordered, Once}
use Rattle.maps.specs.Lists.{All}
use Rattle.maps.specs.Walk.{Rising, seen, latest}
use Rattle.maps.proofs.Lists.{all_map}
use Rattle.maps.proofs.Orders.{same_self, same_eq}
use Rattle.maps.proofs.Survivors.{all_survivors, all_lookup, lookup_key, lookup_after, rising}
use Rattle.maps.proofs.Searches.{lookup_latest, seen_here}
use Rattle.maps.proofs.Reorderings.{In, all_listed, once_one, became, was}

-- ---- entries alike, one by one

-- both are absent, or both are there and R holds of them
pub data Both {E : Type 0} (R : E → E → Type 0) : Option E → Option E → Type 0 where
  neither : Both R None None
  these : {e f : E} → R e f → Both R (Some e) (Some f)

module _ {E : Type 0} {R : E → E → Type 0} where
  not_left : {f : E} {A : Type 0} → Both R None (Some f) → A
  not_left b = elim b [ ]

  not_right : {e : E} {A : Type 0} → Both R (Some e) None → A
  not_right b = elim b [ ]

  held : {e f : E} → Both R (Some e) (Some f) → R e f
  held (these r) = r

module _ {K E : Type 0} {lt : K → K → Bool} (key : E → K) (S : Strict K lt) where
  -- ---- what stands

  -- what is listed is found
  latest_found : (l : List E) (e : E) → In e l → latest key lt (key e) l ≡ None → ⊥
  unfolding latest
  latest_found [] e i = elim i [ ]
  latest_found (f ∷ l) e i = go (latest key lt (key e) l) refl i (latest_found l e)
    where
      go : (o : Option E) → latest key lt (key e) l ≡ o → In e (f ∷ l) → (In e l → latest key lt (key e) l ≡ None → ⊥)
          → option_or o (seen key lt (key e) None f) ≡ None → ⊥
      go (Some g) p j ih q = none-some g (sym q)
      go None p (Memᴰ.head h) ih q =
          none-some f (sym q ∙ seen_here key lt (key e) None f (rw (← ap key h) (same_self S (key e))))
      go None p (Memᴰ.tail j) ih q = ih j p

  pub lookup_found : (l : List E) (e : E) → In e l → lookup key lt (key e) (survivors key lt l) ≡ None → ⊥
  lookup_found l e i p = latest_found l e i (sym (lookup_latest key S (key e) l) ∙ p)

  -- what is found was listed
  lookup_listed : (k : K) (l : List E) (e : E) → lookup key lt k (survivors key lt l) ≡ Some e → In e l
  lookup_listed k l e p =
      all_lookup key lt (λ f. In f l) k (survivors key lt l) e (all_survivors key lt (λ f. In f l) l (all_listed l)) p

  module _ (R : E → E → Type 0) (respects : (e f : E) → R e f → key e ≡ key f) where
    -- a rising map is determined by what is found in it
    alike_found : (m n : List E) → Rising key lt m → Rising key lt n → ((k : K) → Both R (lookup key lt k m) (lookup key lt k n)) → Forall₂ R m n
    unfolding lookup Rising All
    alike_found [] [] M N h = Forall₂.nil
    alike_found [] (f ∷ n) M N h = not_left (rw (same_self S (key f)) at (h (key f)))
    alike_found (e ∷ m) [] M N h = not_right (rw (same_self S (key e)) at (h (key e)))
    alike_found (e ∷ m) (f ∷ n) M N h = go (lt (key e) (key f)) (lt (key f) (key e)) refl refl (alike_found m n M.1 N.1)
      where
        own : (g : E) (l : List E) → lookup key lt (key g) (g ∷ l) ≡ Some g
        own g l = rw (same_self S (key g))

        -- the tails, where the heads have one key
        tail : key e ≡ key f → (k : K) (t : Bool) → same lt k (key e) ≡ t → Both R (lookup key lt k m) (lookup key lt k n)
        tail q k true p =
            let a : lookup key lt k m ≡ None = rw (same_eq S k (key e) p) (lookup_after key S (key e) m M.0) in
            let b : lookup key lt k n ≡ None = rw (same_eq S k (key e) p ∙ q) (lookup_after key S (key f) n N.0) in
            rw (a, b) neither
        tail q k false p =
            let a : lookup key lt k (e ∷ m) ≡ lookup key lt k m = rw p in
            let b : lookup key lt k (f ∷ n) ≡ lookup key lt k n = rw (← q, p) in
            rw (← a, ← b) (h k)

        go : (u v : Bool) → lt (key e) (key f) ≡ u → lt (key f) (key e) ≡ v
            → (((k : K) → Both R (lookup key lt k m) (lookup key lt k n)) → Forall₂ R m n) → Forall₂ R (e ∷ m) (f ∷ n)
        go true v p q ih =
            let a : lookup key lt (key e) (f ∷ n) ≡ None =
            lookup_after key S (key e) (f ∷ n) (p, all_map (λ g r. S.trans (key e) (key f) (key g) p r) n N.0) in
            not_right (rw (own e m, a) at (h (key e)))
        go false true p q ih =
            let a : lookup key lt (key f) (e ∷ m) ≡ None =
            lookup_after key S (key f) (e ∷ m) (q, all_map (λ g r. S.trans (key f) (key e) (key g) q r) m M.0) in
            not_left (rw (a, own f n) at (h (key f)))
        go false false p q ih =
            let k : key e ≡ key f = S.total (key e) (key f) p q in
            let b : lookup key lt (key e) (f ∷ n) ≡ Some f = ap (λ x. lookup key lt x (f ∷ n)) k ∙ own f n in
            Forall₂.cons (held (rw (own e m, b) at (h (key e)))) (ih (λ j. tail k j (same lt j (key e)) refl))

    -- Each entry of a list, and each other under its key, became by R one of another list, and all of those were some.
    pub survivors_alike : (l m : List E) → Reordered R l m → ((e d : E) → In e l → In d l → key e ≡ key d → (f : E) → R d f → R e f)
        → Forall₂ R (survivors key lt l) (survivors key lt m)
    survivors_alike l m w agree = alike_found (survivors key lt l) (survivors key lt m) (rising key S l) (rising key S m) found
      where
        found : (k : K) → Both R (lookup key lt k (survivors key lt l)) (lookup key lt k (survivors key lt m))
        found k = go (lookup key lt k (survivors key lt l)) (lookup key lt k (survivors key lt m)) refl refl
          where
            go : (o p : Option E) → lookup key lt k (survivors key lt l) ≡ o → lookup key lt k (survivors key lt m) ≡ p → Both R o p
            go None None p q = neither
            go (Some e) None p q =
                let b = became w (lookup_listed k l e p) in
                let i : key b.0 ≡ k = sym (respects e b.0 b.2) ∙ lookup_key key S k (survivors key lt l) e p in
                absurd (lookup_found m b.0 b.1 (ap (λ j. lookup key lt j (survivors key lt m)) i ∙ q))
            go None (Some f) p q =
                let a = was w (lookup_listed k m f q) in
                let i : key a.0 ≡ k = respects a.0 f a.2 ∙ lookup_key key S k (survivors key lt m) f q in
                absurd (lookup_found l a.0 a.1 (ap (λ j. lookup key lt j (survivors key lt l)) i ∙ p))
            go (Some e) (Some f) p q =
                let a = was w (lookup_listed k m f q) in
                let i : key e ≡ key a.0 =
                lookup_key key S k (survivors key lt l) e p
                ∙ sym (respects a.0 f a.2 ∙ lookup_key key S k (survivors key lt m) f q) in
                these (agree e a.0 (lookup_listed k l e p) a.1 i f a.2)

    -- the same where no two entries have one key
    pub survivors_once : (l m : List E) → Once key l → Reordered R l m → Forall₂ R (survivors key lt l) (survivors key lt m)
    survivors_once l m h w = survivors_alike l m w (λ e d i j k f r. subst (λ x. R x f) (sym (once_one key h i j k)) r)

  -- two rising maps in which the same is found are one
  pub same_found : (m n : List E) → Rising key lt m → Rising key lt n → ((k : K) → lookup key lt k m ≡ lookup key lt k n) → m ≡ n
  same_found m n M N h =
      equal (alike_found (λ e f. e ≡ f) (λ e f p. ap key p) m n M N (λ k. subst (Both (λ e f. e ≡ f) (lookup key lt k m)) (h k) (self (lookup key lt k m))))
    where
      self : (o : Option E) → Both (λ e f. e ≡ f) o o
      self None = neither
      self (Some e) = these refl

      equal : {m n : List E} → Forall₂ (λ e f. e ≡ f) m n → m ≡ n
      equal Forall₂.nil = refl
      equal (Forall₂.cons {l₁ = l} p w) = cc (p, equal w)

-- ---- like maps compared

module _ {K E : Type 0} (key : E → K) (lt : K → K → Bool) where
  pub lookup_alike : {Q : E → E → Type 0} {n n' : List E} → ((e f : E) → Q e f → key e ≡ key f) → (k : K) → Forall₂ Q n n'
      → Both Q (lookup key lt k n) (lookup key lt k n')
  unfolding lookup
  lookup_alike respects k Forall₂.nil = neither
  lookup_alike {Q = Q} respects k (Forall₂.cons {a = e} {b = f} {l₁ = l} {l₂ = m} r w) =
      rw (← respects e f r) (go (same lt k (key e)) (lookup_alike respects k w))
    where
      go : (u : Bool) → Both Q (lookup key lt k l) (lookup key lt k m) → Both Q (cond u (Some e) (lookup key lt k l)) (cond u (Some f) (lookup key lt k m))
      go true ih = these r
      go false ih = ih

  module _ {P Q : E → E → Type 0} (respects_first : (e f : E) → P e f → key e ≡ key f) (respects_second : (e f : E) → Q e f → key e ≡ key f) where
    between_alike : {C : Type 0} (g h : Option E → Option E → List C)
        → ((e f : E) (o p : Option E) → P e f → Both Q o p → g (Some e) o ≡ h (Some f) p)
        → {m m' n n' : List E} → Forall₂ P m m' → Forall₂ Q n n' → between key lt g m n ≡ between key lt h m' n'
    unfolding between flat_map
    between_alike g h s Forall₂.nil v = refl
    between_alike g h s {n = n} {n' = n'} (Forall₂.cons {a = e} {b = f} {l₁ = l} {l₂ = m} r w) v =
        let a : g (Some e) (lookup key lt (key e) n) ≡ h (Some f) (lookup key lt (key f) n') =
        s e f _ _ r (rw (respects_first e f r) (lookup_alike respects_second (key f) v)) in
        rw (a, between_alike g h s w v)

-- Two comparisons, each with its rules.
pub compare_alike_lem : {K E C : Type 0} (key : E → K) (lt : K → K → Bool) {P Q : E → E → Type 0}
    → ((e f : E) → P e f → key e ≡ key f) → ((e f : E) → Q e f → key e ≡ key f) → (r s : Rules E C)
    → ((e f : E) → P e f → r.gone e ≡ s.gone f) → ((e f : E) → Q e f → r.came e ≡ s.came f)
    → ((d e f g : E) → P d e → Q f g → r.kept d f ≡ s.kept e g)
    → {m m' n n' : List E} → Forall₂ P m m' → Forall₂ Q n n' → compare key lt r m n ≡ compare key lt s m' n'
unfolding compare unmatched matched
compare_alike_lem {E = E} key lt {P} {Q} p q r s gone came kept v w =
    cc (
      between_alike key lt p q (unmatched r.gone) (unmatched s.gone) gone_too v w,
      between_alike key lt q p (unmatched r.came) (unmatched s.came) came_too w v,
      between_alike key lt p q (matched r.kept) (matched s.kept) kept_too v w,
    )
  where
    gone_too : (e f : E) (o u : Option E) → P e f → Both Q o u → unmatched r.gone (Some e) o ≡ unmatched s.gone (Some f) u
    gone_too e f o u a neither = gone e f a
    gone_too e f o u a (these b) = refl

    came_too : (e f : E) (o u : Option E) → Q e f → Both P o u → unmatched r.came (Some e) o ≡ unmatched s.came (Some f) u
    came_too e f o u a neither = came e f a
    came_too e f o u a (these b) = refl

    kept_too : (e f : E) (o u : Option E) → P e f → Both Q o u → matched r.kept (Some e) o ≡ matched s.kept (Some f) u
    kept_too e f o u a neither = refl
    kept_too e f o u a (these {e = d} {f = g} b) = kept e f d g a b
