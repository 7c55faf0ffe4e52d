-- Batch after batch is put after what is durable.
use Rattle.std.proofs.Common.{◌==◌, Bool, true, false, ◌≡◌, ◌≤◌, ◌++◌, [], ◌∷◌, List, length, take, ◌∙◌, refl, sym, ap, subst, arith, length-append, take-append-drop}
use Rattle.std.specs.Prelude.{IsTrue, Result, Ok, Err, OnOk}
use Rattle.std.specs.List.{AllByRecursion}
use Rattle.std.proofs.lemmas.Bool.Decides.{Decides-eqb}
use Rattle.edge_traits.specs.Disk.{LeavesOnly}
use Rattle.journal_text.specs.declared.entry.Entry.{Entry}
use Rattle.journal_text.specs.Text.{IsSpellable}
use Rattle.journal_store.specs.Store.{disk_of}
use Rattle.registrar_book.specs.Journals.{HasLog, HasPrefix}
use Rattle.registrar_book.proofs.Batches.{none_put, more_put, cut_put, all_put, small_after}
use Rattle.registrar_book.proofs.press.Press.put_all.Goals as goal

pub loop-rest-init : goal.loop-rest-init
loop-rest-init g c = record {
  put = none_put g.D.Disk.may_leave g.D.Disk.moment g.D.Disk.left_since (IsTrue (g.D.Disk.tells (disk_of c.args.self.now.journal))) c.args.self.now.journal c.args.entries.now
      (g.met.D.Disk.only_now (disk_of c.args.self.now.journal));
  pending = c.requires.nothing_pending;
  reach = omega arith;
  counted = refl;
  tells = refl;
  spellable = c.requires.spellable;
  small = c.requires.sizes;
}

pub put-requires-clause-stands : goal.put-requires-clause-stands
put-requires-clause-stands g c told =
    let told' = subst IsTrue c.loop-rest.invariant.tells told in
    let stands = c.requires.stands told' in
    let put = c.loop-rest.invariant.put in
    (stands.0 ++ put.prefix, put.stands told' stands.0 stands.1)

pub returns-in-Err-clause-any_moment : goal.returns-in-Err-clause-any_moment
returns-in-Err-clause-any_moment g c =
    let same : c.loop-rest.rest.now ≡ c.split_at.result.0.now ++ c.split_at.result.1.now
    = sym (ap (λ (l : List Entry). l ++ c.split_at.result.1.now) c.split_at.ensures.front ∙ ap (λ (l : List Entry). take c.min.result c.loop-rest.rest.now ++ l) c.split_at.ensures.back ∙ take-append-drop c.min.result c.loop-rest.rest.now) in
    cut_put g.D.Disk.may_leave g.D.Disk.moment g.D.Disk.left_since (IsTrue (g.D.Disk.tells (disk_of c.args.self.now.journal))) c.args.self.now.journal c.loop-rest.self.journal c.put.new.self.journal
    c.args.entries.now c.loop-rest.rest.now c.split_at.result.0.now c.split_at.result.1.now c.loop-rest.invariant.put same
    (λ told log stands. c.put.ensures.any_moment (subst IsTrue (sym c.loop-rest.invariant.tells) told) log stands)

none_left : (rest : List Entry) (b : Bool) → b ≡ (length rest == 0) → b ≡ true → rest ≡ []
none_left [] b is t = refl
none_left (e ∷ rest) b is t = let none = (Decides-eqb (length (e ∷ rest)) 0).0 (sym is ∙ t) in absurd (omega (arith, none))

some_left : (rest : List Entry) (b : Bool) → b ≡ (length rest == 0) → b ≡ false → 1 ≤ length rest
some_left [] b is f = absurd (cc (sym f ∙ is))
some_left (e ∷ rest) b is f = omega arith

ok_gives : {T E : Type 0} {P : Type 0} (r : Result T E) (x : T) → r ≡ Ok x → OnOk r P → P
ok_gives (Ok y) x is gives = gives
ok_gives (Err e) x is gives = absurd (cc is)

all_after : (P : Entry → Type 0) (batch after : List Entry) → AllByRecursion P (batch ++ after) → AllByRecursion P after
all_after P [] after all = all
all_after P (e ∷ batch) after all = all_after P batch after all.1

pub loop-rest-preserved : goal.loop-rest-preserved
loop-rest-preserved g c =
    let same : c.loop-rest.rest.now ≡ c.split_at.result.0.now ++ c.split_at.result.1.now
    = sym (ap (λ (l : List Entry). l ++ c.split_at.result.1.now) c.split_at.ensures.front ∙ ap (λ (l : List Entry). take c.min.result c.loop-rest.rest.now ++ l) c.split_at.ensures.back ∙ take-append-drop c.min.result c.loop-rest.rest.now) in
    let some = some_left c.loop-rest.rest.now c.is_empty.result c.is_empty.ensures c.loop-rest-test.true in
    record {
      put =
          more_put g.D.Disk.may_leave g.D.Disk.moment g.D.Disk.left_since (IsTrue (g.D.Disk.tells (disk_of c.args.self.now.journal))) c.args.self.now.journal c.loop-rest.self.journal c.put.new.self.journal
          c.args.entries.now c.loop-rest.rest.now c.split_at.result.0.now c.split_at.result.1.now c.loop-rest.invariant.put same
          (λ told log stands. c.put.ensures.any_moment (subst IsTrue (sym c.loop-rest.invariant.tells) told) log stands)
          (λ told log stands. c.in_default.ensures.ok (subst IsTrue (sym c.loop-rest.invariant.tells) told) log stands);
      pending = ok_gives c.put.result _ c.in_default.is c.put.ensures.pending;
      reach = omega (arith, c.put.ensures.reach, c.loop-rest.invariant.reach, ap length same, length-append c.split_at.result.0.now c.split_at.result.1.now, c.split_at.ensures.front_len, c.min.ensures, some);
      counted = c.in_default.ensures.cause.kept refl ∙ c.loop-rest.invariant.counted;
      tells = c.put.ensures.tells ∙ c.loop-rest.invariant.tells;
      spellable = all_after IsSpellable c.split_at.result.0.now c.split_at.result.1.now (subst (AllByRecursion IsSpellable) same c.loop-rest.invariant.spellable);
      small = small_after c.loop-rest.rest.now c.split_at.result.0.now c.split_at.result.1.now c.loop-rest.invariant.small same;
    }

pub returns-clause-ok : goal.returns-clause-ok
returns-clause-ok g c told log stands =
    let put = c.loop-rest.invariant.put in
    subst (λ (l : List Entry). HasLog g.D.Disk.may_leave c.loop-rest.self.journal (log ++ l)) (all_put g.D.Disk.may_leave g.D.Disk.moment g.D.Disk.left_since (IsTrue (g.D.Disk.tells (disk_of c.args.self.now.journal))) c.args.self.now.journal c.loop-rest.self.journal c.args.entries.now c.loop-rest.rest.now (none_left c.loop-rest.rest.now c.is_empty.result c.is_empty.ensures c.loop-rest-test.false) put)
    (put.stands told log stands)

pub returns-clause-any_moment : goal.returns-clause-any_moment
returns-clause-any_moment g c told log stands =
    let put = c.loop-rest.invariant.put in
    subst (λ (l : List Entry). LeavesOnly g.D.Disk.moment g.D.Disk.left_since (disk_of c.args.self.now.journal) (disk_of c.loop-rest.self.journal) (HasPrefix (length log) (log ++ l)))
    (all_put g.D.Disk.may_leave g.D.Disk.moment g.D.Disk.left_since (IsTrue (g.D.Disk.tells (disk_of c.args.self.now.journal))) c.args.self.now.journal c.loop-rest.self.journal c.args.entries.now c.loop-rest.rest.now (none_left c.loop-rest.rest.now c.is_empty.result c.is_empty.ensures c.loop-rest-test.false) put)
    (put.any_moment told log stands)
