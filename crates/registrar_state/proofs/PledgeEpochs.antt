-- What one more entry says of the epochs of the pledges.
use Rattle.std.proofs.Common.{◌≡◌, ◌⊎◌, inl, inr, ◌↔◌, ℕ, ◌≤◌, ◌==◌, List, [], ◌∷◌, ◌++◌, Some, IsTrue, refl, sym, subst, arith}
use Rattle.std.proofs.lemmas.Bool.{eqb-true, eq-eqb}
use Rattle.std.proofs.lemmas.List.Elements.{All-nil}
use Rattle.edge_traits.specs.declared.names.PledgeId.{PledgeId}
use Rattle.key_sets.specs.Keys.{epoch_of}
use Rattle.journal_text.specs.declared.entry.Entry.{Entry}
use Rattle.journal_text.specs.declared.entry.Entry.TheVariants.{Grant, Given, Stale}
use Rattle.join_history.specs.Contexts.{pledge_of}
use Rattle.join_history.specs.Leases.{IsGrantTo}
use Rattle.join_history.specs.Phases.{phase, IsSpreading}
use Rattle.join_history.specs.Epochs.{IsGivenTo, IsStaleOf, Has, IsStaleFor}
use Rattle.join_history.specs.Legal.{IsLegal, MayFollow}
use Rattle.join_history.specs.Summary.{IsGreatest}
use Rattle.join_history.proofs.ListLemmas.{Any-from_contains, no_middle}
use Rattle.join_history.proofs.LegalLemmas.{IsLegal-push}
use Rattle.join_history.proofs.LeaseLemmas.{pledge_decides, pledge_of-append, one_pledge}
use Rattle.join_history.proofs.KeyLemmas.{phase_fits}
use Rattle.join_history.proofs.EpochLemmas.{Has-append, IsStaleFor-push}
use Rattle.join_history.proofs.NodeLemmas.{has_epoch, stale_epoch, spreading_epoch}
use Rattle.join_history.proofs.AlikeLemmas.{spread_newest}
use Rattle.join_history.proofs.NextLemmas.{Contains-pushed}
use Rattle.join_history.proofs.NextNodeLemmas.{no_any, none_greatest, greatest_same, granted_greatest, has_before, given_newest, stale_newest, granted_not_stale, stale_before}
use Rattle.rekey_core.specs.declared.epochs.Epochs.{Epochs}
use Rattle.rekey_core.specs.Held.{Held, or_none, epochs_of, IsLatest, Sets}
use Rattle.registrar_state.specs.LastGrants.{AreEpochs}

-- these are the greatest epochs of the pledge
abbrev pub AreGreatest : List Entry → PledgeId → Epochs → Type 0
AreGreatest h p epochs = IsGreatest (Has h p) epochs.has × IsGreatest (IsStaleFor h p) epochs.stale

-- the entry is a Grant to the pledge, or says that it has an epoch or is stale for one
abbrev pub IsAbout : List Entry → PledgeId → Entry → Type 0
IsAbout h p e = IsGrantTo h p e ⊎ (((epoch : ℕ) × IsGivenTo h p epoch e) ⊎ ((epoch : ℕ) × IsStaleOf p epoch e))

-- ---- what the epochs that are kept say

-- the greatest number is within a bound of all
within : (P : ℕ → Type 0) (n most : ℕ) → IsGreatest P n → ((m : ℕ) → P m → m ≤ most) → n ≤ most
within P n most greatest bound = elim greatest.holds [
  | inl none ↦ omega (arith, none)
  | inr there ↦ bound n there
]

-- the epochs of a pledge aren't above the newest one
pub epochs_within : (h : List Entry) (held : Held) (p : PledgeId) → IsLegal h → AreEpochs h held
    → ((epochs_of held p).has ≤ epoch_of (phase h)) × ((epochs_of held p).stale ≤ epoch_of (phase h))
epochs_within h held p legal are = (
  within (Has h p) (epochs_of held p).has (epoch_of (phase h)) (are p).0 (λ m has. (has_epoch h p m legal has).1),
  within (IsStaleFor h p) (epochs_of held p).stale (epoch_of (phase h)) (are p).1 (λ m stale. (stale_epoch h p m legal stale).1),
)

-- the newest epoch may be written for a pledge, if there is one
pub newest_is_latest : (h : List Entry) (held : Held) (p : PledgeId) (epoch : ℕ) → IsLegal h → AreEpochs h held
    → epoch ≡ epoch_of (phase h) → 1 ≤ epoch → IsLatest held p epoch
newest_is_latest h held p epoch legal are is some =
    let most = epochs_within h held p legal are in
    (some, omega (arith, is, most.0), omega (arith, is, most.1))

-- a bound of all is the greatest number where it has the property
is_most : (P : ℕ → Type 0) (n most : ℕ) → IsGreatest P n → 1 ≤ most → ((m : ℕ) → P m → m ≤ most) → IsTrue (n == most) ↔ P most
is_most P n most greatest some bound = (
  (λ same.
      let is : n ≡ most = eqb-true n most same in
      elim greatest.holds [
        | inl none ↦ absurd (omega (arith, none, is, some))
        | inr there ↦ subst P is there
      ]),
  (λ there.
      let least = greatest.at_most most there in
      let greatest_fits = within P n most greatest bound in
      eq-eqb n most (omega (arith, least, greatest_fits))),
)

-- the pledge has the epoch that is spread exactly where it is the greatest that it has
pub has_spread : (h : List Entry) (held : Held) (p : PledgeId) (epoch : ℕ) → IsLegal h → AreEpochs h held
    → IsSpreading (phase h) epoch → IsTrue ((epochs_of held p).has == epoch) ↔ Has h p epoch
has_spread h held p epoch legal are spreading =
    let newest = spread_newest (phase h) epoch spreading in
    is_most (Has h p) (epochs_of held p).has epoch (are p).0 (spreading_epoch (phase h) epoch (phase_fits h legal) spreading).0
    (λ m has. let most = has_epoch h p m legal has in omega (arith, most.1, newest))

pub stale_spread : (h : List Entry) (held : Held) (p : PledgeId) (epoch : ℕ) → IsLegal h → AreEpochs h held
    → IsSpreading (phase h) epoch → IsTrue ((epochs_of held p).stale == epoch) ↔ IsStaleFor h p epoch
stale_spread h held p epoch legal are spreading =
    let newest = spread_newest (phase h) epoch spreading in
    is_most (IsStaleFor h p) (epochs_of held p).stale epoch (are p).1 (spreading_epoch (phase h) epoch (phase_fits h legal) spreading).0
    (λ m stale. let most = stale_epoch h p m legal stale in omega (arith, most.1, newest))

-- in the empty history no pledge has an epoch
pub AreEpochs-empty : (held : Held) → ((p : PledgeId) → epochs_of held p ≡ record { has = 0; stale = 0 }) → AreEpochs [] held
AreEpochs-empty held none p =
    subst (AreGreatest [] p) (sym (none p)) (
      none_greatest (Has [] p) (λ m has. elim has [
        | inl since ↦ no_middle since.before since.after since.roll since.place
        | inr given ↦ no_any given
      ]),
      none_greatest (IsStaleFor [] p) (λ m stale. no_middle stale.before stale.after stale.stale stale.place),
    )

-- ---- one pledge's epochs after one more entry

-- an entry that isn't about the pledge leaves its epochs
epochs_kept : (h : List Entry) (e : Entry) (p : PledgeId) (epochs : Epochs) → IsLegal h → (IsAbout (h ++ e ∷ []) p e → ⊥)
    → AreGreatest h p epochs → AreGreatest (h ++ e ∷ []) p epochs
epochs_kept h e p epochs legal not are = (
  greatest_same (Has h p) (Has (h ++ e ∷ []) p) epochs.has (λ m. Has-append h (e ∷ []) p m)
      (λ m. has_before h e p m legal (λ granted. not (inl granted)) (λ given. not (inr (inl (m, given))))) are.0,
  greatest_same (IsStaleFor h p) (IsStaleFor (h ++ e ∷ []) p) epochs.stale
      (λ m. IsStaleFor-push h e p m legal (λ granted. not (inl granted)))
      (λ m. stale_before h e p m (λ stale. not (inr (inr (m, stale))))) are.1,
)

epochs_granted : (h : List Entry) (e : Entry) (p : PledgeId) → IsLegal h → MayFollow h e → IsGrantTo (h ++ e ∷ []) p e
    → AreGreatest (h ++ e ∷ []) p (record { has = epoch_of (phase h); stale = 0 })
epochs_granted h e p legal may granted = (
  granted_greatest h e p legal may granted,
  none_greatest (IsStaleFor (h ++ e ∷ []) p) (λ m. granted_not_stale h e p m granted),
)

epochs_given : (h : List Entry) (time context number epoch : ℕ) (p : PledgeId) (epochs : Epochs) → IsLegal h
    → MayFollow h (Given time context number epoch) → pledge_of h context ≡ Some p → AreGreatest h p epochs
    → AreGreatest (h ++ Given time context number epoch ∷ []) p (record { has = epoch; stale = epochs.stale })
epochs_given h time context number epoch p epochs legal may owner are =
    let e = Given time context number epoch in
    let given : IsGivenTo (h ++ e ∷ []) p epoch e = (pledge_of-append h (e ∷ []) context p owner, refl) in
    let newest = given_newest h e p epoch may given in (
      record {
        holds = inr (inr (Any-from_contains (IsGivenTo (h ++ e ∷ []) p epoch) (h ++ e ∷ []) e (Contains-pushed h e) given));
        at_most = λ m has. let most = has_epoch (h ++ e ∷ []) p m (IsLegal-push h e legal may) has in omega (arith, newest, most.1);
      },
      greatest_same (IsStaleFor h p) (IsStaleFor (h ++ e ∷ []) p) epochs.stale
          (λ m. IsStaleFor-push h e p m legal (λ granted. granted)) (λ m. stale_before h e p m (λ stale. stale)) are.1,
    )

epochs_stale : (h : List Entry) (time epoch : ℕ) (p : PledgeId) (epochs : Epochs) → IsLegal h
    → MayFollow h (Stale time p epoch) → AreGreatest h p epochs
    → AreGreatest (h ++ Stale time p epoch ∷ []) p (record { has = epochs.has; stale = epoch })
epochs_stale h time epoch p epochs legal may are =
    let e = Stale time p epoch in
    let newest = stale_newest h e p epoch may (refl, refl) in
    let stale : IsStaleFor (h ++ e ∷ []) p epoch = record {
      before = h;
      stale = e;
      after = [];
      place = refl;
      is_stale = (refl, refl);
      none_since = All-nil (λ x. IsGrantTo (h ++ e ∷ []) p x → ⊥);
    } in (
      greatest_same (Has h p) (Has (h ++ e ∷ []) p) epochs.has (λ m. Has-append h (e ∷ []) p m)
          (λ m. has_before h e p m legal (λ granted. granted) (λ given. given)) are.0,
      record {
        holds = inr stale;
        at_most = λ m has. let most = stale_epoch (h ++ e ∷ []) p m (IsLegal-push h e legal may) has in omega (arith, newest, most.1);
      },
    )

-- ---- the epochs of all pledges after one more entry

-- where an entry is about one pledge at most, and its epochs are set
epochs_set : (h : List Entry) (e : Entry) (p : PledgeId) (epochs : Epochs) (old new : Held) → IsLegal h
    → ((q : PledgeId) → IsAbout (h ++ e ∷ []) q e → p ≡ q) → Sets p epochs old new → AreGreatest (h ++ e ∷ []) p epochs
    → AreEpochs h old → AreEpochs (h ++ e ∷ []) new
epochs_set h e p epochs old new legal one sets are known q = elim (pledge_decides q p) [
  | inl same ↦
      subst (λ r. AreGreatest (h ++ e ∷ []) r (epochs_of new r)) (sym same)
      (subst (λ o. AreGreatest (h ++ e ∷ []) p (or_none o)) (sym sets.set) are)
  | inr other ↦
      subst (λ o. AreGreatest (h ++ e ∷ []) q (or_none o)) (sym (sets.others q other))
      (epochs_kept h e q (epochs_of old q) legal (λ about. other (sym (one q about))) (known q))
]

-- a Grant is about the pledge of its context
grant_is_about : (h : List Entry) (time context number address until : ℕ) (p q : PledgeId) → pledge_of h context ≡ Some p
    → IsAbout (h ++ Grant time context number address until ∷ []) q (Grant time context number address until) → p ≡ q
grant_is_about h time context number address until p q owner (inl granted) =
    let grant = Grant time context number address until in
    one_pledge (h ++ grant ∷ []) context p q (pledge_of-append h (grant ∷ []) context p owner) granted
grant_is_about h time context number address until p q owner (inr (inl given)) = absurd given.1
grant_is_about h time context number address until p q owner (inr (inr stale)) = absurd stale.1

given_is_about : (h : List Entry) (time context number epoch : ℕ) (p q : PledgeId) → pledge_of h context ≡ Some p
    → IsAbout (h ++ Given time context number epoch ∷ []) q (Given time context number epoch) → p ≡ q
given_is_about h time context number epoch p q owner (inl granted) = absurd granted
given_is_about h time context number epoch p q owner (inr (inl given)) =
    let e = Given time context number epoch in
    one_pledge (h ++ e ∷ []) context p q (pledge_of-append h (e ∷ []) context p owner) given.1.0
given_is_about h time context number epoch p q owner (inr (inr stale)) = absurd stale.1

stale_is_about : (h : List Entry) (time epoch : ℕ) (p q : PledgeId)
    → IsAbout (h ++ Stale time p epoch ∷ []) q (Stale time p epoch) → p ≡ q
stale_is_about h time epoch p q (inl granted) = absurd granted
stale_is_about h time epoch p q (inr (inl given)) = absurd given.1
stale_is_about h time epoch p q (inr (inr stale)) = stale.1.0

-- after a Grant its pledge has the newest epoch, and is stale for none
pub AreEpochs-granted : (h : List Entry) (time context number address until epoch : ℕ) (p : PledgeId) (old new : Held)
    → IsLegal h → MayFollow h (Grant time context number address until) → pledge_of h context ≡ Some p
    → epoch ≡ epoch_of (phase h) → Sets p (record { has = epoch; stale = 0 }) old new → AreEpochs h old
    → AreEpochs (h ++ Grant time context number address until ∷ []) new
AreEpochs-granted h time context number address until epoch p old new legal may owner newest sets known =
    let grant = Grant time context number address until in
    let granted = epochs_granted h grant p legal may (pledge_of-append h (grant ∷ []) context p owner) in
    let are = subst (λ (n : ℕ). AreGreatest (h ++ grant ∷ []) p (record { has = n; stale = 0 })) (sym newest) granted in
    epochs_set h grant p (record { has = epoch; stale = 0 }) old new legal
    (λ q about. grant_is_about h time context number address until p q owner about) sets are known

-- before the first Roll a Grant leaves the epochs
pub AreEpochs-granted_first : (h : List Entry) (time context number address until : ℕ) (p : PledgeId) (held : Held)
    → IsLegal h → MayFollow h (Grant time context number address until) → pledge_of h context ≡ Some p
    → 0 ≡ epoch_of (phase h) → AreEpochs h held → AreEpochs (h ++ Grant time context number address until ∷ []) held
AreEpochs-granted_first h time context number address until p held legal may owner none known q =
    let grant = Grant time context number address until in
    let granted = epochs_granted h grant p legal may (pledge_of-append h (grant ∷ []) context p owner) in
    let most = epochs_within h held p legal known in
    let has : epoch_of (phase h) ≡ (epochs_of held p).has = omega (arith, most.0, none) in
    let stale : 0 ≡ (epochs_of held p).stale = omega (arith, most.1, none) in
    elim (pledge_decides q p) [
      | inl same ↦
          subst (λ r. AreGreatest (h ++ grant ∷ []) r (epochs_of held r)) (sym same) (
            subst (IsGreatest (Has (h ++ grant ∷ []) p)) has granted.0,
            subst (IsGreatest (IsStaleFor (h ++ grant ∷ []) p)) stale granted.1,
          )
      | inr other ↦
          epochs_kept h grant q (epochs_of held q) legal
          (λ about. other (sym (grant_is_about h time context number address until p q owner about))) (known q)
    ]

-- after a Given its pledge has the epoch
pub AreEpochs-given : (h : List Entry) (time context number epoch : ℕ) (p : PledgeId) (old new : Held) → IsLegal h
    → MayFollow h (Given time context number epoch) → pledge_of h context ≡ Some p
    → Sets p (record { has = epoch; stale = (epochs_of old p).stale }) old new → AreEpochs h old
    → AreEpochs (h ++ Given time context number epoch ∷ []) new
AreEpochs-given h time context number epoch p old new legal may owner sets known =
    epochs_set h (Given time context number epoch) p (record { has = epoch; stale = (epochs_of old p).stale }) old new legal
    (λ q about. given_is_about h time context number epoch p q owner about) sets
    (epochs_given h time context number epoch p (epochs_of old p) legal may owner (known p)) known

-- after a Stale its pledge is stale for the epoch
pub AreEpochs-stale : (h : List Entry) (time epoch : ℕ) (p : PledgeId) (old new : Held) → IsLegal h
    → MayFollow h (Stale time p epoch) → Sets p (record { has = (epochs_of old p).has; stale = epoch }) old new
    → AreEpochs h old → AreEpochs (h ++ Stale time p epoch ∷ []) new
AreEpochs-stale h time epoch p old new legal may sets known =
    epochs_set h (Stale time p epoch) p (record { has = (epochs_of old p).has; stale = epoch }) old new legal
    (λ q about. stale_is_about h time epoch p q about) sets
    (epochs_stale h time epoch p (epochs_of old p) legal may (known p)) known

-- an entry that is about no pledge leaves the epochs
pub AreEpochs-other : (h : List Entry) (e : Entry) (held : Held) → IsLegal h
    → ((q : PledgeId) → IsAbout (h ++ e ∷ []) q e → ⊥) → AreEpochs h held → AreEpochs (h ++ e ∷ []) held
AreEpochs-other h e held legal none known q = epochs_kept h e q (epochs_of held q) legal (none q) (known q)
