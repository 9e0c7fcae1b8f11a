-- Links that are noted one by one: a visit after another, and what the list holds in the end. Assumes nothing.
use Rattle.std.specs.Prelude.{◌≡◌, refl, Bool, true, false, cond, List, [], ◌∷◌, ◌++◌, ℕ, suc, ◌+◌, ◌<◌, ◌≤◌, ltb, length, drop, set}
use Rattle.std.proofs.Common.{sym, ap, ap₂, ◌∙◌, add-zero, zero-add, add-one, arith, length-append, length-drop, drop-cons, lt-ltb, le-ltb}
use Rattle.std.proofs.lemmas.List.{set_at}
use Rattle.std.proofs.Math.Seq.{append_snoc}
use Rattle.rules.specs.Chain.{Link, Visit, nothing, place_of, places_of}
use Rattle.chain.specs.Visits.{State, with_opened, noted, notes, carried}

notes_append : (a b : List Link) (s : State) → notes (a ++ b) s ≡ notes b (notes a s)
unfolding notes
notes_append [] b s = refl
notes_append (l ∷ a) b s = notes_append a b (noted l s)

-- notes do not look at the opened events
noted_opened : (l : Link) (o : ℕ) (s : State) → noted l (with_opened o s) ≡ with_opened o (noted l s)
unfolding noted
noted_opened l o s = go (ltb s.count (length s.list))
  where
    more : ℕ → State
    more opened = record { opened = opened; count = s.count + 1; list = set s.list s.count (place_of l) }

    go : (room : Bool) → cond room (more o) (with_opened o s) ≡ with_opened o (cond room (more s.opened) s)
    go true = refl
    go false = refl

notes_opened : (a : List Link) (o : ℕ) (s : State) → notes a (with_opened o s) ≡ with_opened o (notes a s)
unfolding notes
notes_opened [] o s = refl
notes_opened (l ∷ a) o s = ap (notes a) (noted_opened l o s) ∙ notes_opened a o (noted l s)

-- a link that is noted, and one for which there is no room
pub note : (l : Link) (s : State) → s.count < length s.list
    → noted l s ≡ record { opened = s.opened; count = s.count + 1; list = set s.list s.count (place_of l) }
unfolding noted
note l s h = simp (lt-ltb _ _ h)

pub full : (l : Link) (s : State) → length s.list ≤ s.count → noted l s ≡ s
unfolding noted
full l s h = simp (le-ltb _ _ h)

-- a link opens nothing
pub noted_keeps : (l : Link) (s : State) → (noted l s).opened ≡ s.opened
unfolding noted
noted_keeps l s = go (ltb s.count (length s.list))
  where
    go : (room : Bool) → (cond room (record { opened = s.opened; count = s.count + 1; list = set s.list s.count (place_of l) }) s).opened ≡ s.opened
    go true = refl
    go false = refl

-- one visit and then another
pub carried_joined : (a b : Visit) (s : State) → carried b (carried a s) ≡ carried (record { opened = b.opened; links = a.links ++ b.links }) s
unfolding carried
carried_joined a b s =
    ap (with_opened b.opened)
    (notes_opened b.links a.opened (notes a.links s) ∙ ap (with_opened a.opened) (sym (notes_append a.links b.links s)))

pub carried_nothing : (s : State) → carried (nothing s.opened) s ≡ s
unfolding carried notes
carried_nothing s = refl

-- what is opened before is asked of the visit alone
pub carried_opened : (v : Visit) (o : ℕ) (s : State) → carried v (with_opened o s) ≡ carried v s
unfolding carried
carried_opened v o s = ap (with_opened v.opened) (notes_opened v.links o s)

-- behind some places, as many more are filled as there are links
notes_fill : (links : List Link) (a list : List ℕ) (n o : ℕ) → length a ≡ n → n + length links ≤ length list
    → notes links (record { opened = o; count = n; list = a ++ drop n list })
    ≡ record { opened = o; count = n + length links; list = a ++ (places_of links ++ drop (n + length links) list) }
unfolding notes
notes_fill [] a list n o is room = rw (add-zero n)
notes_fill (l ∷ rest) a list n o is room =
    let begun : State = record { opened = o; count = n; list = a ++ drop n list } in
    let p : ℕ = place_of l in
    let fits : n < length (a ++ drop n list) = omega (arith, length-append a (drop n list), length-drop n list, is, room) in
    let count : suc n + length rest ≡ n + suc (length rest) = omega arith in
    let put : set (a ++ drop n list) n p ≡ (a ++ (p ∷ [])) ++ drop (suc n) list =
    ap (λ (b : List ℕ). set (a ++ b) n p) (drop-cons list n 0 (omega (arith, room)))
    ∙ set_at a _ (drop (suc n) list) p n is ∙ sym (append_snoc a p (drop (suc n) list)) in
    ap (notes rest)
    (note l begun fits
    ∙ ap₂ (λ (c : ℕ) (b : List ℕ). record { opened = o; count = c; list = b }) (add-one n) put)
    ∙ notes_fill rest (a ++ (p ∷ [])) list (suc n) o (length-append a (p ∷ []) ∙ omega (arith, is)) (omega (arith, room))
    ∙ ap₂ (λ (c : ℕ) (b : List ℕ). record { opened = o; count = c; list = b }) count
    (append_snoc a p _ ∙ ap (λ (c : ℕ). a ++ (p ∷ (places_of rest ++ drop c list))) count)

-- the whole list of a visit that begins with none noted
pub carried_whole : (v : Visit) (o : ℕ) (list : List ℕ) → length v.links ≤ length list
    → carried v (record { opened = o; count = 0; list = list })
    ≡ record { opened = v.opened; count = length v.links; list = places_of v.links ++ drop (length v.links) list }
unfolding carried
carried_whole v o list room =
    let all = zero-add (length v.links) in
    ap (with_opened v.opened) (notes_fill v.links [] list 0 o refl (omega (arith, room)))
    ∙ ap (λ (n : ℕ). record { opened = v.opened; count = n; list = places_of v.links ++ drop n list }) all
