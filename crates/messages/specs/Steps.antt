-- What a step of the code holds, as octets.
use Rattle.std.specs.Prelude.{map, Result}
use Rattle.std.specs.Option.{option_to_list}
use Rattle.std.specs.Result.{result_map_both}
use Rattle.format.specs.Refusals.{refusal}
use Rattle.format.specs.declared.fault.Fault.{Fault}
use Rattle.format.specs.declared.fault.Refusal.{Refusal}
use Rattle.messages.specs.declared.reading.Step.{Step}
use Rattle.messages.specs.Order.{held_last, held_field}
use Rattle.messages.specs.Meaning.{Next}

abbrev pub held_step : Step → Next
held_step st = record { last = held_last st.last; made = map held_field (option_to_list st.made); rest = st.rest.now }

abbrev pub held_next : Result Step Fault → Result Next Refusal
held_next r = result_map_both held_step refusal r
