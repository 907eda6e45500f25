use mathlib.Core.Path.{refl}
use native.Mathlib.Omega.{arith}
use mir.Facts.{to_z-of_z}
use Rattle.rules_laws.proofs.Ints.{read_back, span_fits, sub_off, off_order, off_le}
use Rattle.geometry.proofs.span.Goals as goal

pub overflow_sub-result : goal.overflow_sub-result
overflow_sub-result c =
    rw (read_back c.args.high c.requires.high_value, read_back c.args.low c.requires.low_value)
    (span_fits c.args.low c.args.high c.requires.low_value c.requires.high_value c.requires.high_value_2)

pub overflow_cast-result : goal.overflow_cast-result
overflow_cast-result c =
    rw (
      read_back c.args.high c.requires.high_value,
      read_back c.args.low c.requires.low_value,
      to_z-of_z (span_fits c.args.low c.args.high c.requires.low_value c.requires.high_value c.requires.high_value_2),
      sub_off c.args.high c.args.low c.requires.high_value c.requires.low_value
          (off_order c.args.low c.args.high c.requires.low_value c.requires.high_value c.requires.high_value_2),
    ) (tt, record { fits = omega (arith, off_le c.args.high c.requires.high_value) })

pub overflow_cast-result-2 : goal.overflow_cast-result-2
overflow_cast-result-2 c =
    rw (
      read_back c.args.high c.requires.high_value,
      read_back c.args.low c.requires.low_value,
      to_z-of_z (span_fits c.args.low c.args.high c.requires.low_value c.requires.high_value c.requires.high_value_2),
      sub_off c.args.high c.args.low c.requires.high_value c.requires.low_value
          (off_order c.args.low c.args.high c.requires.low_value c.requires.high_value c.requires.high_value_2),
    ) (record { fits = omega (arith, off_le c.args.high c.requires.high_value) })

pub returns : goal.returns
returns c =
    rw (
      read_back c.args.high c.requires.high_value,
      read_back c.args.low c.requires.low_value,
      to_z-of_z (span_fits c.args.low c.args.high c.requires.low_value c.requires.high_value c.requires.high_value_2),
      sub_off c.args.high c.args.low c.requires.high_value c.requires.low_value
          (off_order c.args.low c.args.high c.requires.low_value c.requires.high_value c.requires.high_value_2),
    ) record {
      is = refl;
      small = omega (arith, off_le c.args.high c.requires.high_value);
    }
