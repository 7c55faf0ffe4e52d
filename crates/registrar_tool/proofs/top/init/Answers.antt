-- Where an area isn't empty the disk is untouched.
use Rattle.std.proofs.Common.{◌≡◌, ◌≢◌, ◌⊎◌, ◌<◌, ℕ, List, [], ◌∷◌, length, subst, ap, arith, inl, inr}
use Rattle.std.specs.Prelude.{IsTrue, nat_lt, if◌then◌else◌}
use Rattle.registrar_tool.specs.Run.{LeavesDisk}
use Rattle.registrar_tool.proofs.top.init.Goals.{in-Ok+in-Ok-write_all, in-Ok+in-Err, in-Err-Disk, in-Err-AlreadyThere}
use Rattle.registrar_tool.proofs.top.init.Goals as goal

something : (left right : List ℕ) (n : ℕ) → 0 < n → n ≡ (if nat_lt 0 (length left) then length left else length right) → (left ≢ []) ⊎ (right ≢ [])
something [] right n some is = inr (λ none. omega (arith, some, is, ap length none))
something (x ∷ left) right n some is = inl (λ none. omega (arith, ap length none))

pub returns-clause-untouched : goal.returns-clause-untouched
returns-clause-untouched g c leaves =
    elim c.match-format.branch [
      | in-Ok+in-Ok-write_all w ↦ absurd (subst LeavesDisk w.status-is leaves)
      | in-Ok+in-Err w ↦ absurd (subst LeavesDisk w.status-is leaves)
      | in-Err-Disk w ↦ absurd (subst LeavesDisk w.status-is leaves)
      | in-Err-AlreadyThere w ↦
          let areas = g.D.Disk.seen c.args.disk in
          let some : IsTrue (g.D.Disk.tells c.args.disk) → (areas.left ≢ []) ⊎ (areas.right ≢ []) = λ told.
          (let there = (rw w.in-Err-AlreadyThere.field-0-is at w.in-Err-AlreadyThere.ensures.fault) told in something areas.left areas.right _ there.0 there.1) in
          record {
            seen = λ told. (c.format.ensures.kept (some told)).seen told;
            crash = λ told. (c.format.ensures.kept (some told)).crash told;
            any_moment = λ told. (c.format.ensures.kept (some told)).any_moment told;
          }
    ]
