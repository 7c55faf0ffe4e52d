-- What a row says of a request, and what the leases say of a Join.
use Rattle.std.proofs.Common.{◌≡◌, ◌↔◌, inl, inr, ℕ, ◌+◌, ◌<◌, ◌≤◌, List, Option, Some, None, MatchOption, Contains, refl, sym, ◌∙◌, subst, arith}
use Rattle.replay_window.specs.Numbers.{IsJudged}
use Rattle.replay_window.specs.Parts.{StandsFor}
use Rattle.replay_window.specs.declared.judged.Judged.{Judged}
use Rattle.replay_window.specs.declared.judged.Judged.TheVariants.{Fresh, Taken, Old}
use Rattle.edge_traits.specs.declared.names.PledgeId.{PledgeId}
use Rattle.address_leases.specs.declared.grant.Grant.{Grant as Lease}
use Rattle.address_leases.specs.Grants as grants
use Rattle.address_leases.specs.Lent as lent
use Rattle.journal_text.specs.declared.settings.Settings.{Settings}
use Rattle.journal_text.specs.declared.entry.Entry.{Entry}
use Rattle.join_history.specs.Decisions.{IsDecision, HasNumber, IsFresh}
use Rattle.join_history.specs.Due.{IsRepeat, IsNoRepeat}
use Rattle.join_history.specs.Leases.{current_settings, Holds, IsHeldByAnother, IsInPool, IsNotLive, IsDueAddress, HasNoAddress}
use Rattle.join_history.proofs.LastLemmas.{IsLast-unique, IsLast-contains}
use Rattle.join_history.proofs.DecisionLemmas.{HasNumber-from_contains}
use Rattle.registrar_state.specs.declared.contexts.LastRequest.{LastRequest}
use Rattle.registrar_state.specs.declared.contexts.Row.{Row}
use Rattle.registrar_state.specs.Contexts.{AreNumbersOf, IsLastRequest, IsLastOf, IsRow}
use Rattle.registrar_state.specs.Due.{IsJudgedOf}
use Rattle.registrar_state.specs.Leases.{IsLease, AreLeases}
use Rattle.registrar_state.proofs.ContextSteps.{one_decided}

-- ---- numbers

judged_numbers : (h : List Entry) (c n : ℕ) (numbers : List ℕ) (judged : Judged) → AreNumbersOf h c numbers
    → IsJudged numbers n judged → IsJudgedOf h c n judged
judged_numbers h c n numbers Fresh are is = record {
  unused = λ has. is.1 ((are n).1 has);
  in_window = λ m has. is.0 m ((are m).1 has);
}
judged_numbers h c n numbers Taken are is = ((are n).0 is.1, λ m has. is.0 m ((are m).1 has))
judged_numbers h c n numbers Old are is = (is.0, (are is.0).0 is.1, is.2)

-- what the window judges is so in the history
pub judged_row : (h : List Entry) (c n : ℕ) (row : Row) (judged : Judged) → IsRow h c row
    → ((numbers : List ℕ) → StandsFor numbers row.window → IsJudged numbers n judged) → IsJudgedOf h c n judged
judged_row h c n row judged is judges = judged_numbers h c n is.numbers judged is.are_numbers (judges is.numbers is.window)

-- a fresh number may be taken into the window
pub fresh_row : (h : List Entry) (c n : ℕ) (row : Row) → IsRow h c row → IsFresh h c n
    → (numbers : List ℕ) × StandsFor numbers row.window × IsJudged numbers n Fresh
fresh_row h c n row is fresh = (
  is.numbers,
  is.window,
  (λ m has. fresh.in_window m ((is.are_numbers m).0 has), λ has. fresh.unused ((is.are_numbers n).0 has)),
)

-- ---- repeats

none_repeated : (h : List Entry) (c n : ℕ) → ((m : ℕ) → HasNumber h c m → ⊥) → IsNoRepeat h c n
none_repeated h c n none time repeat =
    none n (HasNumber-from_contains h repeat.0 c n (IsLast-contains (λ x. (m : ℕ) × IsDecision c m x) h repeat.0 repeat.1) repeat.2)

-- where no request was decided none is repeated
pub no_repeat : (h : List Entry) (c n : ℕ) (row : Row) → IsRow h c row → row.last ≡ None → IsNoRepeat h c n
no_repeat h c n row is none = none_repeated h c n (subst (IsLastOf h c) none is.last)

pub last_of_row : (h : List Entry) (c : ℕ) (row : Row) (l : LastRequest) → IsRow h c row → row.last ≡ Some l → IsLastRequest h c l
last_of_row h c row l is some = subst (IsLastOf h c) some is.last

-- a request with the number of the last one repeats it
pub repeat_of : (h : List Entry) (c n : ℕ) (l : LastRequest) → IsLastRequest h c l → l.number ≡ n → IsRepeat h c n l.time
repeat_of h c n l is same = (is.decision, is.last, subst (λ (m : ℕ). IsDecision c m is.decision) same is.number, is.time)

-- one with another number doesn't
pub other_number : (h : List Entry) (c n : ℕ) (l : LastRequest) → IsLastRequest h c l → (l.number ≡ n → ⊥) → IsNoRepeat h c n
other_number h c n l is other time repeat =
    let same = IsLast-unique (λ x. (m : ℕ) × IsDecision c m x) h is.decision repeat.0 is.last repeat.1 in
    other (one_decided c l.number n repeat.0 (subst (IsDecision c l.number) same is.number) repeat.2)

-- ---- addresses

holds_there : (h : List Entry) (l : lent.Lent) (t a : ℕ) (p : PledgeId) → AreLeases h l → grants.Holds l.grants t a p → Holds h t a p
holds_there h l t a p are held =
    let is = are.each held.0 held.1 in
    subst (λ q. Holds h t a q) held.3 (subst (λ (b : ℕ). Holds h t b held.0.id) held.2
    (is.time, is.context, is.number, held.0.until, is.effect, is.pledge, held.4))

holds_here : (h : List Entry) (l : lent.Lent) (t a : ℕ) (p : PledgeId) → AreLeases h l → l.passed ≤ t → Holds h t a p → grants.Holds l.grants t a p
holds_here h l t a p are after (time, context, number, until, effect, owner, later) =
    let g : Lease = record { until = until; address = a; id = p } in
    let is : IsLease h g = record { time = time; context = context; number = number; effect = effect; pledge = owner } in
    (g, are.every g is (omega (arith, after, later)), refl, refl, later)

another_there : (h : List Entry) (l : lent.Lent) (t a : ℕ) (p : PledgeId) → AreLeases h l → grants.IsHeldByAnother l.grants t a p → IsHeldByAnother h t a p
another_there h l t a p are held = (held.0, held.1, holds_there h l t a held.0 are held.2)

another_here : (h : List Entry) (l : lent.Lent) (t a : ℕ) (p : PledgeId) → AreLeases h l → l.passed ≤ t → IsHeldByAnother h t a p
    → grants.IsHeldByAnother l.grants t a p
another_here h l t a p are after held = (held.0, held.1, holds_here h l t a held.0 are after held.2)

pub some_settings : (s z : Settings) → Some s ≡ Some z → s ≡ z
some_settings s z is = cc (is)

pool_there : (h : List Entry) (s : Settings) (a : ℕ) → current_settings h ≡ Some s → grants.IsInPool s.first s.count a → IsInPool h a
pool_there h s a current is = (s, current, is.0, is.1)

pool_here : (h : List Entry) (s : Settings) (a : ℕ) → current_settings h ≡ Some s → IsInPool h a → grants.IsInPool s.first s.count a
pool_here h s a current (z, is, from, to) =
    let same = some_settings z s (sym is ∙ current) in
    (subst (λ (x : Settings). x.first ≤ a) same from, subst (λ (x : Settings). a < x.first + x.count) same to)

not_live_there : (h : List Entry) (l : lent.Lent) (t : ℕ) (p : PledgeId) → AreLeases h l → l.passed ≤ t → lent.IsNotLive l t p → IsNotLive h t p
not_live_there h l t p are after not a live = not a ((are.live t a p after).1 live)

-- what the leases answer to a Join is the address that it is due
pub asked : (h : List Entry) (l : lent.Lent) (s : Settings) (t : ℕ) (p : PledgeId) (r : Option ℕ) → AreLeases h l → l.passed ≤ t
    → current_settings h ≡ Some s → lent.IsAnswer l s.first s.count t p r → MatchOption r (HasNoAddress h t p) (IsDueAddress h t p)
asked h l s t p None are after current is = (
  not_live_there h l t p are after is.0,
  λ b pool. another_there h l t b p are (is.1 b (pool_here h s b current pool)),
)
asked h l s t p (Some a) are after current (inl live) = inl ((are.live t a p after).0 live)
asked h l s t p (Some a) are after current (inr (not, free)) = inr (
  not_live_there h l t p are after not,
  record {
    in_pool = pool_there h s a current free.in_pool;
    free = λ held. free.free (another_here h l t a p are after held);
    least = λ b pool less. another_there h l t b p are (free.least b (pool_here h s b current pool) less);
  },
)

-- the pledge holds some address exactly where some lease of it isn't over
pub holds_some : (h : List Entry) (l : lent.Lent) (t : ℕ) (p : PledgeId) → AreLeases h l → l.passed ≤ t
    → ((g : Lease) × Contains l.grants g × (g.id ≡ p) × (t < g.until + 3600)) ↔ ((a : ℕ) × Holds h t a p)
holds_some h l t p are after = (
  λ found. (found.0.address, holds_there h l t found.0.address p are (found.0, found.1, refl, found.2, found.3)),
  λ held. let here = holds_here h l t held.0 p are after held.1 in (here.0, here.1, here.3, here.4),
)
