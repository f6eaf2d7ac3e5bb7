-- Laws of specs/Reordered: what is listed before and after, reorderings one after the other and back, and that they are what the library
-- says of permutations.
-- Assumes nothing.
use mathlib.Core.Path.{◌≡◌, refl, sym, ◌∙◌, subst}
use mathlib.Core.Logic.{◌⊎◌, inl, inr, ◌↔◌}
use mathlib.Core.List.Permᴰ
use mathlib.Core.List.{List, [], ◌∷◌, Memᴰ, Forall₂, Permᴰ}
use Rattle.maps.specs.Lists.{All}
use Rattle.maps.specs.Reordered.{Put, here, later, Reordered, nothing, each, EachTwo, Once}
use Rattle.maps.proofs.Lists.{all_map}

-- a is listed
abbrev pub In : {A : Type 0} → A → List A → Type 0
In a l = Memᴰ a l

-- ---- elements that are listed

pub all_in : {A : Type 0} (P : A → Type 0) {a : A} {l : List A} → All P l → In a l → P a
unfolding All
all_in P h (Memᴰ.head e) = subst P (sym e) h.0
all_in P h (Memᴰ.tail m) = all_in P h.1 m

pub all_listed : {A : Type 0} (l : List A) → All (λ a. In a l) l
unfolding All
all_listed [] = tt
all_listed (a ∷ l) = (Memᴰ.head refl, all_map (λ b m. Memᴰ.tail m) l (all_listed l))

-- two that are listed are one, or P holds of them, if it holds both ways round
pub each_two : {A : Type 0} (P : A → A → Type 0) → ((a b : A) → P a b → P b a) → {a b : A} {l : List A} → EachTwo P l → In a l → In b l → (a ≡ b) ⊎ P a b
unfolding EachTwo
each_two P turn h (Memᴰ.head p) (Memᴰ.head q) = inl (p ∙ sym q)
each_two P turn {b = b} h (Memᴰ.head p) (Memᴰ.tail n) = inr (subst (λ x. P x b) (sym p) (all_in (P _) h.0 n))
each_two P turn {a = a} {b = b} h (Memᴰ.tail m) (Memᴰ.head q) =
    inr (turn b a (subst (λ x. P x a) (sym q) (all_in (P _) h.0 m)))
each_two P turn h (Memᴰ.tail m) (Memᴰ.tail n) = each_two P turn h.1 m n

pub each_two_map : {A : Type 0} {P Q : A → A → Type 0} → ((a b : A) → P a b → Q a b) → (l : List A) → EachTwo P l → EachTwo Q l
unfolding EachTwo
each_two_map f [] h = tt
each_two_map f (a ∷ l) h = (all_map (f a) l h.0, each_two_map f l h.1)

-- P holds of every two elements that have Q
pub each_two_of : {A : Type 0} (Q : A → Type 0) (P : A → A → Type 0) → ((a b : A) → Q a → Q b → P a b) → (l : List A) → All Q l → EachTwo P l
unfolding EachTwo All
each_two_of Q P f [] h = tt
each_two_of Q P f (a ∷ l) h = (all_map (λ b q. f a b h.0 q) l h.1, each_two_of Q P f l h.1)

-- no two have one key: two that have are one
pub once_one : {K E : Type 0} (key : E → K) {l : List E} {e f : E} → Once key l → In e l → In f l → key e ≡ key f → e ≡ f
unfolding Once
once_one key {e = e} {f = f} h i j k = go (each_two (λ a b. key a ≡ key b → ⊥) (λ a b n q. n (sym q)) h i j)
  where
    go : (e ≡ f) ⊎ (key e ≡ key f → ⊥) → e ≡ f
    go (inl p) = p
    go (inr n) = absurd (n k)

-- ---- one element put in

module _ {A : Type 0} where
  put_in : {a : A} {l m : List A} → Put a l m → In a m
  put_in here = Memᴰ.head refl
  put_in (later p) = Memᴰ.tail (put_in p)

  put_keeps : {a b : A} {l m : List A} → Put a l m → In b l → In b m
  put_keeps here i = Memᴰ.tail i
  put_keeps (later p) (Memᴰ.head e) = Memᴰ.head e
  put_keeps (later p) (Memᴰ.tail i) = Memᴰ.tail (put_keeps p i)

  put_cases : {a b : A} {l m : List A} → Put a l m → In b m → (b ≡ a) ⊎ In b l
  put_cases here (Memᴰ.head e) = inl e
  put_cases here (Memᴰ.tail i) = inr i
  put_cases (later p) (Memᴰ.head e) = inr (Memᴰ.head e)
  put_cases {a = a} {b = b} (later {b = c} {l = l} p) (Memᴰ.tail i) = go (put_cases p i)
    where
      go : (b ≡ a) ⊎ In b l → (b ≡ a) ⊎ In b (c ∷ l)
      go (inl e) = inl e
      go (inr j) = inr (Memᴰ.tail j)

  put_all : (P : A → Type 0) {a : A} {l m : List A} → Put a l m → P a → All P l → All P m
  unfolding All
  put_all P here p h = (p, h)
  put_all P (later q) p h = (h.0, put_all P q p h.1)

  put_each_two : (P : A → A → Type 0) → ((b c : A) → P b c → P c b) → {a : A} {l m : List A} → Put a l m → All (P a) l → EachTwo P l → EachTwo P m
  unfolding EachTwo All
  put_each_two P turn here h k = (h, k)
  put_each_two P turn {a} (later {b = b} q) h k = (put_all (P b) q (turn a b h.0) k.0, put_each_two P turn q h.1 k.1)

  -- two are put in in either order
  put_first : {a b : A} {k l m : List A} → Put a k l → Put b l m → (n : List A) × Put b k n × Put a n m
  put_first {b = b} {k = k} p here = (b ∷ k, here, later p)
  put_first here (later {m = m} q) = (m, q, here)
  put_first (later {b = c} {l = l} p) (later q) = let w = put_first {k = l} p q in (c ∷ w.0, later w.1, later w.2)

  put_perm : {a : A} {l m : List A} → Put a l m → Permᴰ (a ∷ l) m
  put_perm {a = a} {l = l} here = Permᴰ.refl (a ∷ l)
  put_perm (later p) = Permᴰ.trans (Permᴰ.swap refl refl) (Permᴰ.cons refl (put_perm p))

-- ---- reorderings

pub reordered_self : {A : Type 0} {R : A → A → Type 0} → ((a : A) → R a a) → (l : List A) → Reordered R l l
reordered_self h [] = nothing
reordered_self h (a ∷ l) = each (h a) (reordered_self h l) here

module _ {A B : Type 0} {R : A → B → Type 0} where
  -- what an element became, and what one was
  pub became : {l : List A} {m : List B} {a : A} → Reordered R l m → In a l → (b : B) × In b m × R a b
  became nothing i = elim i [ ]
  became {m = n} {a = a} (each {b = b} r rest p) (Memᴰ.head e) = (b, put_in p, subst (λ x. R x b) (sym e) r)
  became (each r rest p) (Memᴰ.tail i) = let w = became rest i in (w.0, put_keeps p w.1, w.2)

  pub was : {l : List A} {m : List B} {b : B} → Reordered R l m → In b m → (a : A) × In a l × R a b
  was nothing i = elim i [ ]
  was {b = b} (each {a = a} {b = c} {l = l} {m = m} r rest p) i = go (put_cases p i) (was rest)
    where
      go : (b ≡ c) ⊎ In b m → (In b m → (x : A) × In x l × R x b) → (x : A) × In x (a ∷ l) × R x b
      go (inl e) ih = (a, Memᴰ.head refl, subst (R a) (sym e) r)
      go (inr j) ih = let w = ih j in (w.0, Memᴰ.tail w.1, w.2)

  -- the way back
  put_back : {a : A} {b : B} {l : List A} {m n : List B} → R a b → Put b m n → Reordered (λ y x. R x y) m l → Reordered (λ y x. R x y) n (a ∷ l)
  put_back r here w = each r w here
  put_back r (later p) (each {m = m'} q w i) = each q (put_back {l = m'} r p w) (later i)

  pub reordered_back : {l : List A} {m : List B} → Reordered R l m → Reordered (λ b a. R a b) m l
  reordered_back nothing = nothing
  reordered_back (each r w p) = put_back r p (reordered_back w)

  pub reordered_map : {T : A → B → Type 0} {l : List A} {m : List B} → ((a : A) (b : B) → R a b → T a b) → Reordered R l m → Reordered T l m
  reordered_map f nothing = nothing
  reordered_map f (each {a = a} {b = b} r rest p) = each (f a b r) (reordered_map f rest) p

  -- with what all elements of the first list have
  pub reordered_all : (P : A → Type 0) {l : List A} {m : List B} → All P l → Reordered R l m → Reordered (λ a b. R a b × P a) l m
  unfolding All
  reordered_all P h nothing = nothing
  reordered_all P h (each r rest p) = each (r, h.0) (reordered_all P h.1 rest) p

  -- what holds of all elements, and of every two, holds of what they became
  pub all_reordered : (P : A → Type 0) (Q : B → Type 0) → ((a : A) (b : B) → R a b → P a → Q b) → {l : List A} {m : List B} → Reordered R l m
      → All P l → All Q m
  unfolding All
  all_reordered P Q f nothing h = tt
  all_reordered P Q f (each {a = a} {b = b} r rest p) h = put_all Q p (f a b r h.0) (all_reordered P Q f rest h.1)

  pub each_two_reordered : (P : A → A → Type 0) (Q : B → B → Type 0) → ((b c : B) → Q b c → Q c b)
      → ((a d : A) (b c : B) → R a b → R d c → P a d → Q b c) → {l : List A} {m : List B} → Reordered R l m → EachTwo P l → EachTwo Q m
  unfolding EachTwo
  each_two_reordered P Q turn f nothing h = tt
  each_two_reordered P Q turn f (each {a = a} {b = b} r rest p) h =
      put_each_two Q turn p (all_reordered (P a) (Q b) (λ d c s. f a d b c r s) rest h.0) (each_two_reordered P Q turn f rest h.1)

-- no two have one key, and none had
pub once_reordered : {K A B : Type 0} {R : A → B → Type 0} (first : A → K) (second : B → K) → ((a : A) (b : B) → R a b → first a ≡ second b)
    → {l : List A} {m : List B} → Reordered R l m → Once first l → Once second m
unfolding Once
once_reordered first second respects w h =
    each_two_reordered (λ a d. first a ≡ first d → ⊥) (λ b c. second b ≡ second c → ⊥) (λ b c n e. n (sym e))
    (λ a d b c r s n e. n (respects a b r ∙ e ∙ sym (respects d c s))) w h

-- ---- one after the other

-- what became of one element, and of the others
take_out : {B C : Type 0} {S : B → C → Type 0} {b : B} {l m : List B} {n : List C} → Put b l m → Reordered S m n
    → (c : C) × (o : List C) × S b c × Reordered S l o × Put c o n
take_out here (each {b = c} {m = o} s rest q) = (c, o, s, rest, q)
take_out (later p) (each s rest q) =
    let w = take_out p rest in
    let x = put_first w.4 q in
    (w.0, x.0, w.2, each s w.3 x.1, x.2)

pub reordered_then : {A B C : Type 0} {R : A → B → Type 0} {S : B → C → Type 0} {l : List A} {m : List B} {n : List C}
    → Reordered R l m → Reordered S m n → Reordered (λ a c. (b : B) × R a b × S b c) l n
reordered_then nothing nothing = nothing
reordered_then (each {b = b} r rest p) w = let x = take_out p w in each (b, r, x.2) (reordered_then rest x.3) x.4

-- ---- permutations: each element became one by R, in order, and then the order was changed

perm_reordered : {A : Type 0} {l m : List A} → Permᴰ l m → Reordered (λ a b. a ≡ b) l m
perm_reordered Permᴰ.nil = nothing
perm_reordered (Permᴰ.cons e d) = each e (perm_reordered d) here
perm_reordered (Permᴰ.swap {l = l} e f) = each e (each f (reordered_self (λ a. refl) l) here) (later here)
perm_reordered (Permᴰ.trans d e) = reordered_map (λ a b w. w.1 ∙ w.2) (reordered_then (perm_reordered d) (perm_reordered e))

pub reordered_perm : {A B : Type 0} {R : A → B → Type 0} {l : List A} {m : List B} → Reordered R l m ↔ ((n : List B) × Forall₂ R l n × Permᴰ n m)
reordered_perm {A} {B} {R} {l} {m} = (apart, λ w. reordered_map (λ a c x. subst (R a) x.2 x.1) (reordered_then (in_order w.1) (perm_reordered w.2)))
  where
    apart : {l : List A} {m : List B} → Reordered R l m → (n : List B) × Forall₂ R l n × Permᴰ n m
    apart nothing = ([], Forall₂.nil, Permᴰ.nil)
    apart (each {b = b} r rest p) =
        let w = apart rest in (b ∷ w.0, Forall₂.cons r w.1, Permᴰ.trans (Permᴰ.cons refl w.2) (put_perm p))

    in_order : {l : List A} {m : List B} → Forall₂ R l m → Reordered R l m
    in_order Forall₂.nil = nothing
    in_order (Forall₂.cons r w) = each r (in_order w) here
