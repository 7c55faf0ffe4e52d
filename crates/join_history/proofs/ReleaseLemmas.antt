-- Lemmas about how leases end: at their time, and by a Release.
use Rattle.std.proofs.Common.{◌≡◌, ◌↔◌, inl, ℕ, ◌+◌, ◌<◌, List, [], ◌∷◌, ◌++◌, Some, All, refl, sym, ap, ◌∙◌, subst, arith}
use Rattle.std.proofs.lemmas.Option.{same_Some}
use Rattle.std.proofs.lemmas.List.Elements.{All-contains}
use Rattle.edge_traits.specs.declared.names.PledgeId.{PledgeId}
use Rattle.journal_text.specs.declared.settings.Settings.{Settings}
use Rattle.journal_text.specs.declared.entry.Entry.{Entry}
use Rattle.journal_text.specs.declared.entry.Entry.TheVariants.{Grant, Release}
use Rattle.join_history.specs.Times.{moment}
use Rattle.join_history.specs.Contexts.{pledge_of}
use Rattle.join_history.specs.Leases.{current_settings, lease_end, IsReleaseOf, Holds, IsLeaseOf, IsLive}
use Rattle.join_history.specs.Legal.{IsLegal}
use Rattle.join_history.proofs.ListLemmas.{Contains-middle, Last, Earlier, in_pushed}
use Rattle.join_history.proofs.LastLemmas.{IsLast-unique, IsLast-pushed}
use Rattle.join_history.proofs.TimeLemmas.{IsTimely-moment}
use Rattle.join_history.proofs.LeaseLemmas.{pledge_of-append}

-- a granted lease is live before its end and not from its end on
pub lease_ends : (before : List Entry) (time c n a until t : ℕ) (p : PledgeId)
    → IsLegal (before ++ Grant time c n a until ∷ []) → pledge_of before c ≡ Some p
    → IsLive (before ++ Grant time c n a until ∷ []) t p a ↔ (t < until)
lease_ends before time c n a until t p legal owner =
    let grant = Grant time c n a until in
    let h = before ++ grant ∷ [] in
    let last = IsLast-pushed (IsLeaseOf h p) before grant (inl (pledge_of-append before (grant ∷ []) c p owner)) in (
      (λ live.
          let same = IsLast-unique (IsLeaseOf h p) h (Grant live.0 live.1 live.2 a live.3) grant live.4 last in
          let end : live.3 ≡ until = cc (same) in
          subst (λ (u : ℕ). t < u) end live.5),
      (λ later. (time, c, n, until, last, later)),
    )

-- a lease of 0 hours has no end
endless : (t hours : ℕ) → hours ≡ 0 → lease_end t hours ≡ 18446744073709551615
endless t hours none = rw none refl

-- a lease that was granted under settings without hours is live at every moment
pub lease_without_end : (before : List Entry) (time c n a until now : ℕ) (p : PledgeId) (s : Settings)
    → IsLegal (before ++ Grant time c n a until ∷ []) → pledge_of before c ≡ Some p → current_settings before ≡ Some s
    → s.hours ≡ 0
    → IsLive (before ++ Grant time c n a until ∷ []) (moment (before ++ Grant time c n a until ∷ []) now) p a
lease_without_end before time c n a until now p s legal owner current none =
    let h = before ++ Grant time c n a until ∷ [] in
    let may = legal before (Grant time c n a until) [] refl in
    let same = same_Some may.1 s (sym may.2.current ∙ current) in
    let end : until ≡ 18446744073709551615 = may.4 ∙ endless time may.1.hours (ap (λ (x : Settings). x.hours) same ∙ none) in
    let fits = (IsTimely-moment h now legal).fits in
    (lease_ends before time c n a until (moment h now) p legal owner).1 (omega (arith, end, fits))

-- a pledge that was just released holds no address
pub released_holds_nothing : (h : List Entry) (time t a : ℕ) (p : PledgeId) → Holds (h ++ Release time p ∷ []) t a p → ⊥
released_holds_nothing h time t a p (made, context, number, until, effect, owner, later) =
    let grant = Grant made context number a until in
    elim (in_pushed h (Release time p) effect.before grant effect.after effect.place) [
      | Last whole new after ↦ cc (new)
      | Earlier rest place after ↦
          let since = subst (All (λ x. IsReleaseOf p x → ⊥)) after effect.none_since in
          All-contains (λ x. IsReleaseOf p x → ⊥) (rest ++ Release time p ∷ []) (Release time p) since
          (Contains-middle rest (Release time p) []) refl
    ]

-- no pledge is released in the 600 seconds after a Grant to it
pub released_late : (before between after : List Entry) (made time c n a until : ℕ) (p : PledgeId)
    → IsLegal (before ++ Grant made c n a until ∷ between ++ Release time p ∷ after) → pledge_of before c ≡ Some p
    → made + 600 < time
released_late before between after made time c n a until p legal owner =
    let grant = Grant made c n a until in
    let g = before ++ grant ∷ between in
    let may = legal g (Release time p) after refl in
    let aged = may.2 grant (Contains-middle before grant between) (c, n, (refl, refl), pledge_of-append before (grant ∷ between) c p owner) in
    let same = same_Some made aged.0 aged.1 in
    omega (arith, same, aged.2)
