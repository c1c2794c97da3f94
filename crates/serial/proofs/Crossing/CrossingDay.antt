-- What the promise says of the crossing day, whose policy keeps its meaning.
--   crossing_says   all that is said of it holds
use Rattle.std.proofs.Common.{◌≡◌, Bool, true, false, cond, ◌&&◌, ◌||◌, List, [], ◌∷◌, ◌++◌, ℤ, pos, ◌+ℤ◌, ◌≤ℤ◌, ◌<ℤ◌, refl, ap, arith, take, drop}
use lib.Signed.{lt_z}
use Rattle.std.proofs.lemmas.Int.{ints, clamps}
use Rattle.std.specs.Int.{int_min}
use Rattle.policy.specs.Ranges.{Within, Meaning, near_range, is_empty}
use Rattle.protocol.specs.Calls.{settle, step, register_after}
use Rattle.protocol.specs.Cases.{calls_of, full}
use Rattle.protocol.specs.AcrossGrounds.{crossing}
use Rattle.protocol.specs.declared.call.Call.TheVariants.{Begin, Decide}
use Rattle.serial.specs.Alone.{NonePending, Commits}
use Rattle.protocol.specs.declared.call.Call.{Call}
use Rattle.serial.specs.Crossing.{CrossingSays, morning, morning_register, owing_history, owing_register, evening_history, evening_register, own_calls}
use Rattle.serial.specs.Days.{IsDay, history_after}
use Rattle.serial.specs.Ledger.{History}
use Rattle.serial.proofs.Days.{day_after}
use Rattle.serial.proofs.Promised.{promise}
use Rattle.serial.proofs.Crossing.NonePending.{none_pending}
use Rattle.serial.proofs.Crossing.Elsewhere.{settled_elsewhere}

-- The policy of the day keeps its meaning.
near_means : Meaning near_range
near_means = record { within = inside; whole = untouched; empty = back }
  where
    inside : (l u : ℤ) (bs cs : List ℤ) → l ≤ℤ u → Within l u (near_range l u bs cs)
    inside l u bs cs e = go (lt_z u l || (is_empty bs && is_empty cs))
      where
        go : (b : Bool) → Within l u (cond b (l, u) (l, int_min u (l +ℤ pos 1023)))
        go true = (omega (arith, ints), e, omega (arith, ints))
        go false = (omega (arith, ints), omega (arith, ints, clamps), omega (arith, ints, clamps))

    untouched : (l u : ℤ) → near_range l u [] [] ≡ (l, u)
    untouched l u = go (lt_z u l)
      where
        go : (b : Bool) → ◌≡◌ {A = ℤ × ℤ} (cond (b || true) (l, u) (l, int_min u (l +ℤ pos 1023))) (l, u)
        go true = refl
        go false = refl

    back : (l u : ℤ) (bs cs : List ℤ) → u <ℤ l → near_range l u bs cs ≡ (l, u)
    back l u bs cs e = ap (λ b. cond (b || (is_empty bs && is_empty cs)) (l, u) (l, int_min u (l +ℤ pos 1023))) (below u l e)
      where
        below : (x y : ℤ) → x <ℤ y → lt_z x y ≡ true
        below x y i = grind (arith, ints)

-- At the end of the day none is pending.
all_quiet : NonePending evening_history
all_quiet = none_pending evening_history refl

-- The day, and the day on which transaction 4 begins and makes its calls.
crossing_day : IsDay near_range morning full evening_history evening_register
crossing_day = day_after near_range morning full (calls_of crossing) [] morning_register refl

-- The calls of transaction 4, its decide among them.
abbrev four_calls : List Call
four_calls = Begin 4 ∷ own_calls ++ Decide 4 ∷ []

-- The history with them.
abbrev with_four : History
with_four = history_after near_range evening_register evening_history four_calls

-- Transaction 4 begins while none is pending, and its cells have stamps to spare.
four_commits : Commits (step near_range (register_after near_range evening_register (Begin 4 ∷ own_calls)) (Decide 4)).1
four_commits =
    let promised = promise near_range near_means morning full with_four (register_after near_range evening_register four_calls)
    (day_after near_range morning full four_calls evening_history evening_register crossing_day) in
    promised.alone 4 [] _ (take 5 (drop 1 with_four)) _ evening_history refl
    (record { quiet = all_quiet; begins = refl; only = (refl, (refl, (refl, (refl, (refl, tt))))); decides = refl }) evening_register crossing_day
    ((omega arith, omega arith), ((omega arith, omega arith), ((omega arith, omega arith), tt)))

-- All that is said of the day holds.
pub crossing_says : CrossingSays
crossing_says =
    let apart = settled_elsewhere owing_register 1 1 0 refl in
    let kept = promise near_range near_means morning full evening_history evening_register crossing_day in
    let before = promise near_range near_means morning full owing_history owing_register
    (day_after near_range morning full (take 15 (calls_of crossing)) [] morning_register refl) in
    record {
      day = crossing_day;
      as_worked = refl;
      order = refl;
      tells = kept.tells;
      otherwise = refl;
      owed_late = refl;
      owed_no_more = refl;
      serial = kept.serial;
      quiet = all_quiet;
      alone = four_commits;
      local = before.local [] _ refl owing_register before.day near_range (λ l u bs cs a b c d e. refl) (settle owing_register 1 1).0 2 0 (omega arith) apart.0 (apart.1 2);
    }
