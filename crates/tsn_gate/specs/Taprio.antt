-- A shell script that hands gate control lists to Linux's taprio.
--     escaped                       a name in a comment
--     device_text, part_text        its parts
--     script_text_within, script_text    the whole
use Rattle.std.specs.Prelude.{ℕ, ◌*◌, ◌/◌, ◌%◌, ◌==◌, ◌&&◌, Bool, not, nat_le, nat_lt, if◌then◌else◌, true, Option, Some, None, List, [], ◌∷◌, ◌++◌, codes}
use Rattle.std.specs.List.{flat_map}
use Rattle.std.specs.Fmt.{decimal, digit_glyph}
use Rattle.tsn_model.specs.declared.GateEntry.{GateEntry}
use Rattle.tsn_model.specs.Network.{Network, link_at}
use Rattle.tsn_model.specs.Gates.{cycle_of}
use Rattle.tsn_model.specs.Bridge.{LinkGates}
use Rattle.tsn_timing.specs.Problem.{NamedNetwork}
use Rattle.tsn_gate.specs.Table.{name_at}

-- a printable ASCII character but the backslash
abbrev pub is_plain : ℕ → Bool
is_plain byte = nat_le 32 byte && nat_lt byte 127 && not (byte == 92)

-- which stands as it is, and each other byte as `\x` and two upper case hexadecimal digits
unfoldable pub escaped_byte : ℕ → List ℕ
escaped_byte byte = if is_plain byte then byte ∷ [] else codes "\\x" ++ (digit_glyph true (byte / 16) ∷ digit_glyph true (byte % 16) ∷ [])

-- so a name has no line feed
abbrev pub escaped : List ℕ → List ℕ
escaped name = flat_map escaped_byte name

-- `# link 4: S to C`
unfoldable pub comment_text : ℕ → List ℕ → List ℕ → List ℕ
comment_text link from to = codes "# link " ++ (decimal link ++ (codes ": " ++ (escaped from ++ (codes " to " ++ (escaped to ++ 10 ∷ [])))))

-- that of a list's link
abbrev pub link_comment : NamedNetwork → ℕ → List ℕ
link_comment problem number =
    let link = link_at problem.network number in
    comment_text number (name_at problem link.from) (name_at problem link.to)

-- the variable of a link's device, which is empty where the caller sets none
unfoldable pub variable_text : ℕ → List ℕ
variable_text link = codes "DEV_" ++ (decimal link ++ (codes "=${DEV_" ++ (decimal link ++ codes ":-}\n")))

abbrev pub device_text : NamedNetwork → LinkGates → List ℕ
device_text problem list = link_comment problem list.link ++ variable_text list.link

-- an entry: its octet as two upper case hexadecimal digits, and its interval in nanoseconds
unfoldable pub step_text : GateEntry → List ℕ
step_text entry =
    codes "    sched-entry S " ++ ((digit_glyph true (entry.octet / 16) ∷ digit_glyph true (entry.octet % 16) ∷ [])
    ++ (codes " " ++ (decimal entry.interval ++ codes " \\\n")))

-- the shortest entry that Linux takes on a link, in nanoseconds: as long as 60 octets; of no link of the network none is too short
abbrev pub shortest_entry : Network → ℕ → ℕ
shortest_entry network link = 60 * (link_at network link).octet_time

-- the head of a link's command, up to the cycle
unfoldable pub opening_text : ℕ → ℕ → ℕ → List ℕ
opening_text link shortest cycle =
    codes "[ -z \"$DEV_" ++ (decimal link ++ (codes "\" ] || \"$1\" " ++ (decimal shortest ++ (codes " \"$DEV_" ++ (decimal link
    ++ (codes "\" parent root handle 100 taprio \\\n    num_tc 8 map 0 1 2 3 4 5 6 7 0 0 0 0 0 0 0 0 \\\n    queues 1@0 1@1 1@2 1@3 1@4 1@5 1@6 1@7 \\\n    base-time \"$BASE_TIME\" cycle-time "
    ++ (decimal cycle ++ codes " \\\n")))))))

abbrev pub closing_text : List ℕ
closing_text = codes "    $CLOCK\n"

-- a list's command
unfoldable pub command_text : Network → LinkGates → List ℕ
command_text network list = opening_text list.link (shortest_entry network list.link) (cycle_of list.entries) ++ (flat_map step_text list.entries ++ closing_text)

-- an empty line, the comment on the link, and the command
abbrev pub part_text : NamedNetwork → LinkGates → List ℕ
part_text problem list = (10 ∷ [] ++ link_comment problem list.link) ++ command_text problem.network list

-- the variables, but for those of devices
unfoldable pub first_lines : List ℕ
first_lines =
    codes "#!/bin/sh\n# Each list is set on the device that its variable names, and none where that is empty.\n# BASE_TIME: when the first cycle begins, in nanoseconds of the clock CLOCKID.\n# FLAGS: empty where the kernel runs the lists, 0x2 where the device does, 0x1 for launch times, with TXTIME_DELAY.\n# MOST, LEAST: the most entries and the least nanoseconds of one that a device takes; LEAST empty: as long as 60 octets on its link.\n# DRY=1: print the commands and run none. FORCE=1: set lists that are refused for MOST or LEAST, too.\nset -eu\nCLOCKID=${CLOCKID:-CLOCK_TAI}\nBASE_TIME=${BASE_TIME:-0}\nFLAGS=${FLAGS:-}\nTXTIME_DELAY=${TXTIME_DELAY:-0}\nDRY=${DRY:-}\nFORCE=${FORCE:-}\n"

-- what a device takes where the caller says nothing else; of the shortest entry nothing, or a number for all links
unfoldable pub limits_text : ℕ → Option ℕ → List ℕ
limits_text most None = codes "MOST=${MOST:-" ++ (decimal most ++ codes "}\nLEAST=${LEAST:-}\n")
limits_text most (Some least) = codes "MOST=${MOST:-" ++ (decimal most ++ (codes "}\nLEAST=${LEAST:-" ++ (decimal least ++ codes "}\n")))

-- what the variables make
unfoldable pub setting_lines : List ℕ
setting_lines =
    codes "\ncase $FLAGS in\n'') CLOCK=\"clockid $CLOCKID\" ;;\n0x1 | 1) CLOCK=\"flags $FLAGS txtime-delay $TXTIME_DELAY clockid $CLOCKID\" ;;\n*) CLOCK=\"flags $FLAGS\" ;;\nesac\n\n# Ends the script where a variable is no number.\nnumber() {\n    case $2 in\n    '' | *[!0123456789]* | ???????????????????*)\n        echo \"$1 is no number of at most 18 digits: $2\" >&2\n        exit 1\n        ;;\n    esac\n}\nnumber MOST \"$MOST\"\nnumber LEAST \"${LEAST:-0}\"\n"

-- what is done with each list
unfoldable pub middle_lines : List ℕ
middle_lines =
    codes "REFUSED=\n\n# Tells what a device doesn't take of its list: more than MOST entries, or one shorter than LEAST nanoseconds.\njudge() {\n    least=${LEAST:-$1}\n    device=$2\n    shift 2\n    entries=0\n    shortest=$least\n    while [ $# -gt 0 ]; do\n        if [ \"$1\" = sched-entry ]; then\n            entries=$((entries + 1))\n            [ \"$4\" -ge \"$shortest\" ] || shortest=$4\n            shift 3\n        fi\n        shift\n    done\n    if [ \"$entries\" -gt \"$MOST\" ]; then\n        echo \"$device: $entries entries, more than $MOST\" >&2\n        REFUSED=1\n    fi\n    if [ \"$shortest\" -lt \"$least\" ]; then\n        echo \"$device: an entry of $shortest ns, shorter than $least\" >&2\n        REFUSED=1\n    fi\n}\n\n# Sets a list on its device.\nput() {\n    device=$2\n    shift 2\n    if [ -n \"$DRY\" ]; then\n        echo tc qdisc replace dev \"$device\" \"$@\"\n    else\n        tc qdisc replace dev \"$device\" \"$@\"\n    fi\n}\n\neach_list() {\n    :\n"

-- that none is set where one is refused
unfoldable pub last_lines : List ℕ
last_lines =
    codes "}\n\neach_list judge\nif [ -n \"$REFUSED\" ] && [ -z \"$FORCE\" ]; then\n    echo \"No list is set; FORCE=1 sets them all.\" >&2\n    exit 1\nfi\neach_list put\n"

-- what a device takes, and the devices
abbrev pub variables_text : ℕ → Option ℕ → NamedNetwork → List LinkGates → List ℕ
variables_text most least problem lists = limits_text most least ++ flat_map (device_text problem) lists

-- the commands of the lists, between what is made and done with each
abbrev pub commands_text : NamedNetwork → List LinkGates → List ℕ
commands_text problem lists = setting_lines ++ (middle_lines ++ (flat_map (part_text problem) lists ++ last_lines))

-- the whole
abbrev pub script_text_within : ℕ → Option ℕ → NamedNetwork → List LinkGates → List ℕ
script_text_within most least problem lists = first_lines ++ (variables_text most least problem lists ++ commands_text problem lists)

-- that of what Linux takes
abbrev pub script_text : NamedNetwork → List LinkGates → List ℕ
script_text problem lists = script_text_within 30 None problem lists
