-- What a load's report says once more was seen. Source: our own.
use Rattle.std.specs.Prelude.{ℕ, max, Some}
use Rattle.chord_app_ask.specs.Counts.{added, sum}
use Rattle.chord_app_ask.specs.declared.load.report.Report.{Report}

-- one more retrieve found an empty set
abbrev pub with_empty : Report → Report
with_empty report =
    record {
      times = report.times;
      faults = report.faults;
      empty = added report.empty 1;
      milliseconds = report.milliseconds;
      still = report.still;
      resumed = report.resumed;
      doubled = report.doubled;
    }

-- one more connection went on
abbrev pub with_resumed : Report → Report
with_resumed report =
    record {
      times = report.times;
      faults = report.faults;
      empty = report.empty;
      milliseconds = report.milliseconds;
      still = report.still;
      resumed = sum report.resumed (Some 1);
      doubled = report.doubled;
    }

-- one more insert acted twice
abbrev pub with_doubled : Report → Report
with_doubled report =
    record {
      times = report.times;
      faults = report.faults;
      empty = report.empty;
      milliseconds = report.milliseconds;
      still = report.still;
      resumed = report.resumed;
      doubled = sum report.doubled (Some 1);
    }

-- no reply came for this long
abbrev pub with_still : ℕ → Report → Report
with_still passed report =
    record {
      times = report.times;
      faults = report.faults;
      empty = report.empty;
      milliseconds = report.milliseconds;
      still = max report.still passed;
      resumed = report.resumed;
      doubled = report.doubled;
    }
