-- What a pass keeps of its seat through a turn.
use Rattle.std.proofs.Common.{◌≡◌, ℕ, ◌+◌, ◌^◌, ◌<◌, true, false, Option, List, [], ◌∷◌, ◌++◌, All, refl, sym, ap, ◌∙◌, subst, arith, length-append}
use Rattle.std.proofs.lemmas.List.Elements.{All-head, All-tail}
use Rattle.atomic_table.specs.Table.{Me}
use Rattle.atomic_table.specs.Seated.{TableId}
use Rattle.turn_lock.specs.declared.rule.View.{View}
use Rattle.turn_lock.specs.declared.rule.Start.{Start}
use Rattle.turn_lock.specs.Report.{Report, MayFollow}
use Rattle.turn_lock.specs.Views.{addition, last_or}
use Rattle.turn_lock.specs.Locks.{PassView, with_turn, with_report}
use Rattle.turn_lock.specs.Seated.{IsLast, lock_of, last_seen, pass_of, IsSeated, TookTurn, EndedTurn}
use Rattle.turn_lock.proofs.Sharing.{last_or-snoc}

All-last : {X : Type 0} (P : X → Type 0) (front : List X) (x : X) → All P (front ++ x ∷ []) → P x
All-last P [] x h = All-head P x [] h
All-last P (y ∷ front) x h = All-last P front x (All-tail P y (front ++ x ∷ []) h)

module _ {V : Type 0} where
  snoc_last : (opening : V) (front : List V) (value : V) → IsLast (front ++ value ∷ []) (last_or opening (front ++ value ∷ []))
  snoc_last opening front value = (front, ap (λ (x : V). front ++ x ∷ []) (sym (last_or-snoc opening front value)))

  module _ {I O : Type 0} (report : V → Report I) (origin : V → O) (start : Start V) where
    -- a seat that took a turn saw the value last, which may follow what it had seen
    pub record HasTaken (turns : ℕ) (value : V) (before after : Me (Option V) (View V)) : Type 0 where
      pub seated : IsSeated origin start turns after
      pub seen_is : last_seen start after.0 ≡ value
      pub follows : MayFollow report origin (last_seen start before.0) value
      pub origin_is : origin value ≡ origin start.opening.value

    pub has_taken : (turns : ℕ) (value : V) (before after : Me (Option V) (View V)) → IsSeated origin start turns before → before.0.turn ≡ false → turns < 2 ^ 47 → TookTurn report origin value before after
        → HasTaken (turns + 1) value before after
    has_taken turns value before after seated idle few took =
        let d = start.opening.value in
        let P : V → Type 0 = λ v. MayFollow report origin v value in
        let follows : P (last_seen start before.0) = All-last P seated.last.0 (last_seen start before.0) (subst (All P) seated.last.1 took.follows) in
        let seen_is : last_or d (took.earlier ++ value ∷ []) ≡ value = last_or-snoc d took.earlier value in
        let origin_is : origin value ≡ origin d = follows.1 ∙ seated.origin_is in
        let Q : Me (Option V) (View V) → Type 0 = λ m. HasTaken (turns + 1) value before m in
        let was = seated.idle idle in
        subst Q (sym took.after_is) record {
          seated = record {
            last = snoc_last d took.earlier value;
            origin_is = ap origin seen_is ∙ origin_is;
            one = seated.one;
            counted = ap (λ (n : ℕ). n + 1) seated.counted;
            few = omega arith;
            idle = λ e. absurd (cc e);
            holding = λ _. (refl, omega (arith, was.2));
          };
          seen_is = seen_is;
          follows = follows;
          origin_is = origin_is;
        }

    -- a seat that gave the value back
    pub record HasGiven (turns : ℕ) (value : V) (after : Me (Option V) (View V)) : Type 0 where
      pub seated : IsSeated origin start turns after
      pub seen_is : last_seen start after.0 ≡ value

    pub has_given : (turns : ℕ) (value : V) (before after : Me (Option V) (View V)) → IsSeated origin start turns before → before.0.turn ≡ true → origin value ≡ origin start.opening.value → EndedTurn (last_seen start before.0) value before after
        → HasGiven turns value after
    has_given turns value before after seated has origin_is ended =
        let d = start.opening.value in
        let a = addition ended.number (last_seen start before.0) value in
        let seen_is : last_or d (before.0.seen ++ value ∷ []) ≡ value = last_or-snoc d before.0.seen value in
        let Q : Me (Option V) (View V) → Type 0 = λ m. HasGiven turns value m in
        let was = seated.holding has in
        subst Q (sym ended.after_is) record {
          seated = record {
            last = snoc_last d before.0.seen value;
            origin_is = ap origin seen_is ∙ origin_is;
            one = seated.one;
            counted = seated.counted;
            few = seated.few;
            idle = λ _. (refl, refl, omega (arith, was.1, length-append before.0.own (a ∷ [])));
            holding = λ e. absurd (cc e);
          };
          seen_is = seen_is;
        }

    -- the pass as callers see it, after the turn
    pub given_view : (id id' : TableId) (turns : ℕ) (value : V) (before after : Me (Option V) (View V)) (now : PassView V) → IsSeated origin start turns before → id' ≡ id → pass_of id start before.0 ≡ now → (ended : EndedTurn (last_seen start before.0) value before after)
        → pass_of id' start after.0 ≡ with_report now ended.number value
    given_view id id' turns value before after now seated same is ended =
        let lock = lock_of id start in
        let own = before.0.own ++ addition ended.number (last_seen start before.0) value ∷ [] in
        let seen_is : last_or start.opening.value (before.0.seen ++ value ∷ []) ≡ value = last_or-snoc start.opening.value before.0.seen value in
        let P : V → PassView V = λ (x : V). record { lock = lock; seen = x; own = own; has_turn = false } in
        ap (λ (i : TableId). pass_of i start after.0) same
        ∙ ap (λ (m : Me (Option V) (View V)). pass_of id start m.0) ended.after_is
        ∙ ap P seen_is
        ∙ ap (λ (p : PassView V). with_report p ended.number value) is

    pub taken_view : (id id' : TableId) (value : V) (before after : Me (Option V) (View V)) (now : PassView V) → id' ≡ id → pass_of id start before.0 ≡ now → TookTurn report origin value before after
        → pass_of id' start after.0 ≡ with_turn now value
    taken_view id id' value before after now same is took =
        let lock = lock_of id start in
        let seen_is : last_or start.opening.value (took.earlier ++ value ∷ []) ≡ value = last_or-snoc start.opening.value took.earlier value in
        let P : V → PassView V = λ (x : V). record { lock = lock; seen = x; own = before.0.own; has_turn = true } in
        ap (λ (i : TableId). pass_of i start after.0) same
        ∙ ap (λ (m : Me (Option V) (View V)). pass_of id start m.0) took.after_is
        ∙ ap P seen_is
        ∙ ap (λ (p : PassView V). with_turn p value) is
