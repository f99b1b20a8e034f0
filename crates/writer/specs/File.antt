-- "Write a load as a version 2 file": settings with the epochs at the start, stops by number, rules in order, calls as they stand, and the
-- search record where the load is searched.
use Rattle.std.specs.Prelude.{ℕ, Bool, cond, List, [], ◌∷◌, ◌++◌, take}
use Rattle.laws.specs.Lists.{concat_map}
use Rattle.settings.specs.declared.Settings.{Settings}
use Rattle.stops.specs.declared.Stop.{Stop}
use Rattle.stops.specs.Stops.{id_of, name_of}
use Rattle.rules.specs.declared.Rule.{Rule}
use Rattle.calls.specs.declared.Call.{Call}
use Rattle.load.specs.declared.Load.{Load}
use Rattle.codec.specs.Shapes.{framed}
use Rattle.codec.specs.Kinds.{settings_body, stop_body, rule_body, call_body, search_body}
use Rattle.codec.specs.Parts.{at_start, parent_id_of, stop_input_of, call_input_of}

-- the records, as `codec` describes their fields, each after its length
unfoldable pub settings_file : Settings → List ℕ
settings_file s = framed (settings_body (at_start s))

unfoldable pub stop_file : List Stop → Stop → List ℕ
stop_file stops s = framed (stop_body (id_of s) (name_of s) (parent_id_of stops s) (stop_input_of s))

unfoldable pub rule_file : Rule → List ℕ
rule_file r = framed (rule_body r)

unfoldable pub call_file : Call → List ℕ
call_file c = framed (call_body (call_input_of c))

unfoldable pub search_file : Bool → List ℕ
search_file searched = cond searched (framed search_body) []

-- byte 0 is version 2
unfoldable pub write_spec_of : Load → List ℕ
write_spec_of l =
    (2 ∷ [])
    ++ (settings_file l.settings
    ++ (concat_map (stop_file l.stops) (take l.stop_count l.stops)
    ++ (concat_map rule_file (take l.rule_count l.rules) ++ (concat_map call_file (take l.call_count l.calls) ++ search_file l.searched))))
