-- What two passes know once they have shared what they have seen.
use Rattle.std.proofs.Common.{◌≡◌, ◌≤◌, Bool, true, false, cond, List, [], ◌∷◌, ◌++◌, length, refl, sym, ap, ◌∙◌, subst, ⊎_elim, inl, inr, arith, length-append}
use Rattle.std.specs.Prelude.{nat_le}
use Rattle.std.proofs.lemmas.Bool.Decides.{nat_tests}
use mathlib.Core.List.{IsPrefix}
use mathlib.Core.Logic.{◌⊎◌}
use Rattle.turn_lock.specs.declared.rule.View.{View}
use Rattle.turn_lock.specs.Report.{Report, Each, GrowsTo, MayFollow, IsGrowing}
use Rattle.turn_lock.specs.Views.{last_or, longer, heard, IsOne}
use Rattle.turn_lock.specs.Seated.{IsLast}
use Rattle.turn_lock.proofs.ListLemmas.{prefix_self, Each-front, Each-back, Each-prefix}
use Rattle.turn_lock.proofs.Growth.{each_to_last}

pub last_or-snoc : {V : Type 0} (opening : V) (xs : List V) (x : V) → last_or opening (xs ++ x ∷ []) ≡ x
last_or-snoc opening [] x = refl
last_or-snoc opening (y ∷ xs) x = last_or-snoc y xs x

pub prefix_length : {X : Type 0} (xs ys : List X) → IsPrefix xs ys → length xs ≤ length ys
prefix_length xs ys p = omega (arith, length-append xs p.0, ap length p.1)

-- of two prefixes of one list the shorter is a prefix of the longer
shorter_prefix : {X : Type 0} (xs ys : List X) (p q : List X) → xs ++ p ≡ ys ++ q → length xs ≤ length ys → IsPrefix xs ys
shorter_prefix [] ys p q same short = (ys, refl)
shorter_prefix (x ∷ xs) [] p q same short = absurd (omega arith)
shorter_prefix (x ∷ xs) (y ∷ ys) p q same short =
    let rest = shorter_prefix xs ys p q (cc same) (omega arith) in
    let head : x ≡ y = cc same in
    (rest.0, cc (head, rest.1))

shorter_begins : {X : Type 0} (xs ys all : List X) → IsPrefix xs all → IsPrefix ys all → length xs ≤ length ys → IsPrefix xs ys
shorter_begins xs ys all p q short = shorter_prefix xs ys p.0 q.0 (p.1 ∙ sym q.1) short

-- the longer of two prefixes of one list
record Longer {X : Type 0} (xs ys zs : List X) : Type 0 where
  one : IsPrefix xs zs
  other : IsPrefix ys zs
  either_is : (zs ≡ xs) ⊎ (zs ≡ ys)

longer_is : {X : Type 0} (xs ys all : List X) → IsPrefix xs all → IsPrefix ys all → (b : Bool) → nat_le (length xs) (length ys) ≡ b → Longer xs ys (cond b ys xs)
longer_is xs ys all p q true is = record { one = shorter_begins xs ys all p q (grind (arith, nat_tests)); other = prefix_self ys; either_is = inr refl }
longer_is xs ys all p q false is = record { one = prefix_self xs; other = shorter_begins ys xs all q p (grind (arith, nat_tests)); either_is = inl refl }

chosen_is : {X : Type 0} (xs ys all : List X) → IsPrefix xs all → IsPrefix ys all → (turn : Bool) → (turn ≡ true → cond turn xs (longer xs ys) ≡ all) → Longer xs ys (cond turn xs (longer xs ys))
chosen_is xs ys all p q true whole = record { one = prefix_self xs; other = subst (IsPrefix ys) (sym (whole refl)) q; either_is = inl refl }
chosen_is xs ys all p q false whole = longer_is xs ys all p q (nat_le (length xs) (length ys)) refl

longer_same : {X : Type 0} (xs ys : List X) → length xs ≤ length ys → (b : Bool) → nat_le (length xs) (length ys) ≡ b → cond b ys xs ≡ ys
longer_same xs ys short true is = refl
longer_same xs ys short false is = absurd (grind (arith, nat_tests))

module _ {V I O : Type 0} (report : V → Report I) (origin : V → O) where
  IsGrowing-front : (xs ys : List V) → IsGrowing report origin (xs ++ ys) → IsGrowing report origin xs
  IsGrowing-front [] ys g = tt
  IsGrowing-front (x ∷ xs) ys g = (Each-front (MayFollow report origin x) xs ys g.0, IsGrowing-front xs ys g.1)

  -- the last value of a list may follow the last one of each prefix of it
  last_follows : (xs zs : List V) (x z : V) → IsLast xs x → IsLast zs z → IsPrefix xs zs → IsGrowing report origin zs → MayFollow report origin x z
  last_follows xs zs x z last end p g =
      let P : V → Type 0 = λ v. MayFollow report origin v z in
      let all : Each P zs = subst (Each P) (sym end.1) (each_to_last report origin end.0 z (subst (IsGrowing report origin) end.1 g)) in
      (Each-back P last.0 (x ∷ []) (subst (Each P) last.1 (Each-prefix P xs zs p all))).0

  -- what is known of two seats once the first has learnt what the second has seen, and the second has learnt it from the first
  pub record HaveShared (opening : V) (v w : View V) : Type 0 where
    pub last : IsLast (heard v w).seen (last_or opening (heard v w).seen)
    pub origin_is : origin (last_or opening (heard v w).seen) ≡ origin opening
    pub later : (last_or opening (heard v w).seen ≡ last_or opening v.seen) ⊎ (last_or opening (heard v w).seen ≡ last_or opening w.seen)
    pub turn : v.turn ≡ true → last_or opening (heard v w).seen ≡ last_or opening v.seen
    pub grown : GrowsTo (report (last_or opening v.seen)) (report (last_or opening (heard v w).seen)) × GrowsTo (report (last_or opening w.seen)) (report (last_or opening (heard v w).seen))
    pub same : w.turn ≡ false → (heard w (heard v w)).seen ≡ (heard v w).seen

  pub have_shared : (opening : V) (v w : View V) → IsLast v.seen (last_or opening v.seen) → origin (last_or opening v.seen) ≡ origin opening → IsLast w.seen (last_or opening w.seen) → origin (last_or opening w.seen) ≡ origin opening
      → IsOne report origin (heard v w) → HaveShared opening v w
  have_shared opening v w last_v origin_v last_w origin_w one =
      let zs : List V = (heard v w).seen in
      let z : V = last_or opening zs in
      let is = chosen_is v.seen w.seen one.all one.also.0 one.also.1.0 v.turn one.whole in
      let last : IsLast zs z = ⊎_elim
      (λ (e : zs ≡ v.seen). subst (λ (l : List V). IsLast l (last_or opening l)) (sym e) last_v)
      (λ (e : zs ≡ w.seen). subst (λ (l : List V). IsLast l (last_or opening l)) (sym e) last_w)
      is.either_is in
      let g : IsGrowing report origin zs = IsGrowing-front zs one.seen.0 (subst (IsGrowing report origin) (sym one.seen.1) one.growing) in
      let by_v = last_follows v.seen zs (last_or opening v.seen) z last_v last is.one g in
      let by_w = last_follows w.seen zs (last_or opening w.seen) z last_w last is.other g in
      record {
        last = last;
        origin_is = by_v.1 ∙ origin_v;
        later = ⊎_elim (λ (e : zs ≡ v.seen). inl (ap (last_or opening) e)) (λ (e : zs ≡ w.seen). inr (ap (last_or opening) e)) is.either_is;
        turn = λ has. ap (λ b. last_or opening (cond b v.seen (longer v.seen w.seen))) has;
        grown = (by_v.0, by_w.0);
        same = λ idle. ap (λ b. cond b w.seen (longer w.seen zs)) idle ∙ longer_same w.seen zs (prefix_length w.seen zs is.other) (nat_le (length w.seen) (length zs)) refl;
      }
