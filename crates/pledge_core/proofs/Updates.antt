-- Which update a datagram is, and whether its number is fresh.
use Rattle.std.proofs.Common.{◌≡◌, ℕ, List, [], ◌∷◌, Result, Ok, subst, sym, arith}
use Rattle.oscore_message.specs.declared.found.FindFault.{FindFault}
use Rattle.oscore_message.specs.Finding.{Request}
use Rattle.oscore_message.proofs.Findings.{finding_only}
use Rattle.replay_window.specs.declared.judged.Judged.{Judged}
use Rattle.replay_window.specs.declared.judged.Judged.TheVariants.{Fresh, Taken, Old}
use Rattle.replay_window.specs.Numbers.{IsJudged}
use Rattle.replay_window.specs.Parts.{StandsFor}
use Rattle.pledge_core.specs.Session.{Session}
use Rattle.pledge_core.specs.Updating.{IsUpdate, IsFresh}

abbrev found : Request → Result Request FindFault
found r = Ok r

pub ok_is : (q r : Request) → found q ≡ found r → q ≡ r
ok_is q r e = cc

-- a datagram is one update at most
pub same_update : (s : Session) (bytes : List ℕ) (q r : Request) → IsUpdate s bytes q → IsUpdate s bytes r → q ≡ r
same_update s bytes q r a b = ok_is q r (finding_only (0x4a ∷ 0x52 ∷ 0x43 ∷ []) bytes (Ok q) (Ok r) a.found b.found)

-- what isn't judged fresh by a list that the window stands for isn't fresh
abbrev pub IsNever : List ℕ → ℕ → Judged → Type 0
IsNever numbers n judged = IsJudged numbers n judged → IsJudged numbers n Fresh → ⊥

pub never_taken : (numbers : List ℕ) (n : ℕ) → IsNever numbers n Taken
never_taken numbers n t f = f.1 t.1

pub never_old : (numbers : List ℕ) (n : ℕ) → IsNever numbers n Old
never_old numbers n o f = let h = f.0 o.0 o.1 in absurd (omega (arith, h, o.2))

pub not_fresh : (s : Session) (bytes : List ℕ) (q r : Request) (judged : Judged) → ((numbers : List ℕ) (n : ℕ) → IsNever numbers n judged)
    → IsUpdate s bytes q → ((numbers : List ℕ) × StandsFor numbers s.window × IsJudged numbers q.number judged)
    → IsUpdate s bytes r → IsFresh s r.number → ⊥
not_fresh s bytes q r judged never a some b fresh =
    let e = same_update s bytes q r a b in
    let P : Request → Type 0 = λ x. IsJudged some.0 x.number Fresh in
    never some.0 q.number some.2 (subst P (sym e) (fresh some.0 some.1))
