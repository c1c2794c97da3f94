-- The promise is kept: what holds of a new register lasts through every call.
use Rattle.serial.specs.Promise.{Promise}
use Rattle.serial.proofs.Alone.Commits.{alone}
use Rattle.serial.proofs.Local.Alike.{local}
use Rattle.serial.proofs.Order.InPlainWords.{in_plain_words}
use Rattle.serial.proofs.Order.SerialLaw.{law}
use Rattle.serial.proofs.Steps.DayHolds.{invariant_day}

pub promise : Promise
promise P means first rooms h m day =
    let now = invariant_day P means first rooms h m day in
    let tells = law first h m now in
    record {
      day = day;
      tells = tells;
      serial = in_plain_words first h m.cells tells;
      alone = alone P means first rooms h m day;
      local = λ later earlier e found led. local P found (invariant_day P means first rooms earlier found led).bounded;
    }
