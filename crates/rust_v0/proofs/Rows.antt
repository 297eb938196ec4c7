-- The definitions, computed on symbols.
use Rattle.rust_v0.proofs.Basics.{◌≡◌, ℕ, ◌-◌, Option, Some, None, Bool, true, false, ◌&&◌, nat_eq, [], ◌∷◌, codes, Result, Ok, Err, List, refl, digits, Refusal, BadReference, BadValue, TooLong, hyphenated, need, no_such_parts}
use Prim.Native.String.{String}
use Rattle.sym_shape.specs.Tree.{Tree}
use Rattle.sym_print.specs.declared.detail.Detail.{Detail}
use Rattle.rust_tree.specs.Shown.{basic_text, numbered_lifetime, lifetime_text, character_text, constant_parts, lifetime_parts, namespace_text, names_from, path_parts, bound_parts, symbol_parts}
use Rattle.idna.specs.Punycode.{decode, insert_all, read_integer, digit_value, adapt, scale}
use Rattle.unicode_ident.specs.Ident.{is_xid_continue}
use Rattle.ucd_table.specs.Rows.{in_ranges}
use Rattle.ucd_derived.specs.XidContinueRanges.{xid_continue_ranges}
use lib.Utf8.{encode}
use Rattle.rust_grammar.specs.Mangled.{answer_of_shape}
use Rattle.rust_v0.proofs.Shapes.{shape_of}

-- the answer for the shape that was read; a symbol that isn't well shaped has the refusal `no_such_parts`
abbrev pub answer_at : Detail → ℕ → Option Tree → Result (List ℕ) Refusal
answer_at detail limit None = Err no_such_parts
answer_at detail limit (Some shape) = answer_of_shape detail limit shape

abbrev pub answer : Detail → ℕ → List ℕ → Result (List ℕ) Refusal
answer detail limit bytes = answer_at detail limit (shape_of bytes)

-- ## Rows, and a test that computes them

record Row : Type 0 where
  pub detail : Detail
  pub symbol : List ℕ
  pub wanted : Result (List ℕ) Refusal
  -- the cost of the text
  pub cost : ℕ

-- the symbol has this text at a limit of this cost, and at no lower limit
abbrev prints : String → List ℕ → ℕ → Row
prints symbol text cost = record { detail = Detail.Full; symbol = codes symbol; wanted = Ok text; cost = cost }

-- likewise in the brief detail
abbrev briefly : String → List ℕ → ℕ → Row
briefly symbol text cost = record { detail = Detail.Brief; symbol = codes symbol; wanted = Ok text; cost = cost }

-- the first bad token of the symbol is a reference at this place
abbrev refers_badly : Detail → String → ℕ → Row
refers_badly detail symbol at = record { detail = detail; symbol = codes symbol; wanted = Err (BadReference at); cost = 0 }

-- the first bad token of the symbol is a number at this place
abbrev counts_badly : Detail → String → ℕ → Row
counts_badly detail symbol at = record { detail = detail; symbol = codes symbol; wanted = Err (BadValue at); cost = 0 }

unfoldable same_bytes : List ℕ → List ℕ → Bool
same_bytes [] [] = true
same_bytes (a ∷ xs) (b ∷ ys) = nat_eq a b && same_bytes xs ys
same_bytes _ _ = false

unfoldable same_refusal : Refusal → Refusal → Bool
same_refusal (BadReference a) (BadReference b) = nat_eq a b
same_refusal (BadValue a) (BadValue b) = nat_eq a b
same_refusal TooLong TooLong = true
same_refusal _ _ = false

unfoldable same_answer : Result (List ℕ) Refusal → Result (List ℕ) Refusal → Bool
same_answer (Ok text) (Ok other) = same_bytes text other
same_answer (Err refusal) (Err other) = same_refusal refusal other
same_answer _ _ = false

-- a text is the answer at a limit of its cost and at no lower limit; a refusal is the answer at a large limit
unfoldable is_right : (detail : Detail) → (symbol : List ℕ) → (cost : ℕ) → Result (List ℕ) Refusal → Bool
is_right detail symbol cost (Ok text) = same_answer (answer detail cost symbol) (Ok text) && same_answer (answer detail (cost - 1) symbol) (Err TooLong)
is_right detail symbol cost (Err refusal) = same_answer (answer detail 1000000 symbol) (Err refusal)

unfoldable are_right : List Row → Bool
are_right [] = true
are_right (row ∷ rows) = is_right row.detail row.symbol row.cost row.wanted && are_right rows

abbrev rows : List Row
rows =
    -- at the edges of the rules
    -- name that begins with a digit
    prints "_RNvC6_123foo3bar" (codes "123foo::bar") 14 ∷
    -- dyn with a binding
    prints "_RINbNbCskIICzLVDPPb_5alloc5alloc8box_freeDINbNiB4_5boxed5FnBoxuEp6OutputuEL_ECs1iopQbuBiw2_3std" (codes "alloc::alloc::box_free::<dyn alloc::boxed::FnBox<(), Output = ()>>") 82 ∷
    -- unbound lifetime
    refers_badly Detail.Full "_RINvC3foo3barRL0_hE" 15 ∷
    -- constants
    prints "_RINvC3foo3barKlnf_Kb1_Kc41_E" (codes "foo::bar::<-15, true, 'A'>") 36 ∷
    -- reference to an open path
    refers_badly Detail.Full "_RNvB_3foo" 4 ∷
    -- closure
    prints "_RNCNvC3foo3bars_0" (codes "foo::bar::{closure#1}") 25 ∷
    -- nested name
    prints "_RNvC3foo3bar" (codes "foo::bar") 11 ∷
    -- disambiguator past 64
    counts_badly Detail.Full "_RNvCszzzzzzzzzzz_3foo3bar" 5 ∷
    -- surrogate
    counts_badly Detail.Full "_RINvC3foo3barKcd800_E" 15 ∷
    -- function shared by two binders
    prints "_RINvC3foo3barFG_RL0_hEuFG_FG_Be_EuEuE" (codes "foo::bar::<for<'a> fn(&'a u8), for<'a> fn(for<'b> fn(&'b u8))>") 84 ∷
    -- trait impl
    prints "_RNvXC3fooNtB2_1ANtB2_1B3baz" (codes "<foo::A as foo::B>::baz") 30 ∷
    -- lifetime is a text
    prints "_RINvC3foo3barFG_RL0_hEuE" (codes "foo::bar::<for<'a> fn(&'a u8)>") 41 ∷
    -- abi c
    prints "_RINvC3foo3barFKCEuE" (codes "foo::bar::<extern \"C\" fn()>") 34 ∷
    -- abi named c
    prints "_RINvC3foo3barFK1CEuE" (codes "foo::bar::<extern \"C\" fn()>") 34 ∷
    -- abi empty
    prints "_RINvC3foo3barFK0EuE" (codes "foo::bar::<extern \"\" fn()>") 33 ∷
    -- basic reference
    prints "_RINvC3foo3barhBb_E" (codes "foo::bar::<u8, u8>") 26 ∷
    -- unit reference
    prints "_RINvC3foo3barTuEFEBc_E" (codes "foo::bar::<((),), fn()>") 34 ∷
    -- empty tuple result
    prints "_RINvC3foo3barTEFEBb_E" (codes "foo::bar::<(), fn() -> ()>") 36 ∷
    -- path of slice
    refers_badly Detail.Full "_RINvC3foo3barShNvBc_1xE" 18 ∷
    -- empty name
    prints "_RNvC0_3foo" (codes "::foo") 8 ∷
    -- empty parent
    prints "_RNvC03foo" (codes "::foo") 8 ∷
    -- dyn no bounds
    prints "_RINvC3foo3barDEL_E" (codes "foo::bar::<dyn >") 22 ∷
    -- char past 128
    counts_badly Detail.Full "_RINvC3foo3barKc100000000000000000000000000000000_E" 15 ∷
    -- binder past 64
    counts_badly Detail.Full "_RINvC3foo3barFGzzzzzzzzzzz_EuE" 15 ∷
    -- lifetime past 64
    refers_badly Detail.Full "_RINvC3foo3barRLzzzzzzzzzzz_hE" 15 ∷
    -- reference past 64
    refers_badly Detail.Full "_RNvBzzzzzzzzzzz_3foo" 4 ∷
    -- tuples 3
    prints "_RINvC3foo3barThhETBb_Bb_ETBf_Bf_EE" (codes "foo::bar::<(u8, u8), ((u8, u8), (u8, u8)), (((u8, u8), (u8, u8)), ((u8, u8), (u8, u8)))>") 142 ∷
    -- type as path
    prints "_RINvC3foo3barNtB2_1ABb_NvBi_1xE" (codes "foo::bar::<foo::A, foo::A, foo::A::x>") 51 ∷
    -- instantiating
    prints "_RNvC3foo3barC3baz" (codes "foo::bar") 11 ∷
    -- suffix
    prints "_RNvC3foo3bar.llvm.1" (codes "foo::bar (.llvm.1)") 21 ∷
    -- shim
    prints "_RNSNvC3foo3bar4call" (codes "foo::bar::{shim:call#0}") 27 ∷
    -- closure name
    prints "_RNCNvC3foo3bar1x" (codes "foo::bar::{closure:x#0}") 27 ∷
    -- unsafe function
    prints "_RINvC3foo3barFUhEhE" (codes "foo::bar::<unsafe fn(u8) -> u8>") 41 ∷
    -- erased
    prints "_RINvC3foo3barRL_hE" (codes "foo::bar::<&u8>") 22 ∷
    -- mutable
    prints "_RINvC3foo3barFG0_QL0_hRL1_hEuE" (codes "foo::bar::<for<'a, 'b> fn(&'b mut u8, &'a u8)>") 61 ∷
    -- pointers
    prints "_RINvC3foo3barPhOhE" (codes "foo::bar::<*const u8, *mut u8>") 40 ∷
    -- array
    prints "_RINvC3foo3barAhj3_E" (codes "foo::bar::<[u8; 3]>") 27 ∷
    -- array of placeholder
    prints "_RINvC3foo3barAhpE" (codes "foo::bar::<[u8; _]>") 27 ∷
    -- slice
    prints "_RINvC3foo3barSeE" (codes "foo::bar::<[str]>") 24 ∷
    -- one tuple
    prints "_RINvC3foo3barTeEE" (codes "foo::bar::<(str,)>") 26 ∷
    -- constant reference
    prints "_RINvC3foo3barKj7_KBc_E" (codes "foo::bar::<7, 7>") 24 ∷
    -- not a constant
    refers_badly Detail.Full "_RINvC3foo3barhKBb_E" 16 ∷
    -- minus zero
    prints "_RINvC3foo3barKan_E" (codes "foo::bar::<0>") 19 ∷
    -- bools
    prints "_RINvC3foo3barKb0_Kb1_E" (codes "foo::bar::<false, true>") 31 ∷
    -- escaped
    prints "_RINvC3foo3barKc27_Kc5c_Kc7f_Kc1f600_E" (codes "foo::bar::<'\\'', '\\\\', '\\u{7f}', '\\u{1f600}'>") 57 ∷
    -- dyn two
    prints "_RINvC3foo3barDNtB2_1ANtB2_1BEL_E" (codes "foo::bar::<dyn foo::A + foo::B>") 45 ∷
    -- dyn binder
    prints "_RINvC3foo3barDG_INtB2_1ARL0_hEp1xhEL_E" (codes "foo::bar::<dyn for<'a> foo::A<&'a u8, x = u8>>") 62 ∷
    -- dyn binding
    prints "_RINvC3foo3barDNtB2_1Ap1xhp1yeEL_E" (codes "foo::bar::<dyn foo::A<x = u8, y = str>>") 53 ∷
    -- dyn outside
    refers_badly Detail.Full "_RINvC3foo3barDG_NtB2_1AEL0_E" 25 ∷
    -- dyn without bounds, and its lifetime isn't bound outside
    refers_badly Detail.Full "_RINvC3foo3barDG_EL0_E" 18 ∷
    -- dyn without bounds, and its lifetime is bound around it
    prints "_RINvC3foo3barFG_DG_EL0_EuE" (codes "foo::bar::<for<'a> fn(dyn for<'b>  + 'a)>") 52 ∷
    -- dyn bound outside
    prints "_RINvC3foo3barFG_DNtB2_1AEL0_EuE" (codes "foo::bar::<for<'a> fn(dyn foo::A + 'a)>") 53 ∷
    -- moved lifetime
    refers_badly Detail.Full "_RINvC3foo3barFG_RL0_hEuRBe_E" 25 ∷
    -- moved lifetime good
    prints "_RINvC3foo3barFG_RL0_hEuFG_Be_EuE" (codes "foo::bar::<for<'a> fn(&'a u8), for<'a> fn(&'a u8)>") 68 ∷
    -- past 128 bits
    counts_badly Detail.Full "_RINvC3foo3barKo100000000000000000000000000000000_E" 15 ∷
    -- all 128 bits
    prints "_RINvC3foo3barKnn0ffffffffffffffffffffffffffffffff_E" (codes "foo::bar::<-340282366920938463463374607431768211455>") 58 ∷
    -- first bad value
    counts_badly Detail.Full "_RINvC3foo3barKcd800_RL0_hE" 15 ∷
    -- first bad reference
    refers_badly Detail.Full "_RINvC3foo3barL0_Kcd800_E" 14 ∷
    -- unfinished
    refers_badly Detail.Full "_RNvNvB_3foo3bar" 6 ∷
    -- misaligned
    prints "_RINvC3foo3barB0_E" (codes "foo::bar::<foo::bar>") 27 ∷
    -- inherent
    prints "_RNvMC3fooINtB2_1AhE3baz" (codes "<foo::A<u8>>::baz") 25 ∷
    -- trait definition
    prints "_RNvYhNtC3foo1B3baz" (codes "<u8 as foo::B>::baz") 25 ∷
    -- disambiguated impl
    refers_badly Detail.Full "_RNvMs0_C3fooNtB2_1A3baz" 15 ∷
    -- binder 1000
    prints "_RINvC3foo3barFGg6_EuE" (codes "foo::bar::<for<'a, 'b, 'c, 'd, 'e, 'f, 'g, 'h, 'i, 'j, 'k, 'l, 'm, 'n, 'o, 'p, 'q, 'r, 's, 't, 'u, 'v, 'w, 'x, 'y, 'z, '_26, '_27, '_28, '_29, '_30, '_31, '_32, '_33, '_34, '_35, '_36, '_37, '_38, '_39, '_40, '_41, '_42, '_43, '_44, '_45, '_46, '_47, '_48, '_49, '_50, '_51, '_52, '_53, '_54, '_55, '_56, '_57, '_58, '_59, '_60, '_61, '_62, '_63, '_64, '_65, '_66, '_67, '_68, '_69, '_70, '_71, '_72, '_73, '_74, '_75, '_76, '_77, '_78, '_79, '_80, '_81, '_82, '_83, '_84, '_85, '_86, '_87, '_88, '_89, '_90, '_91, '_92, '_93, '_94, '_95, '_96, '_97, '_98, '_99, '_100, '_101, '_102, '_103, '_104, '_105, '_106, '_107, '_108, '_109, '_110, '_111, '_112, '_113, '_114, '_115, '_116, '_117, '_118, '_119, '_120, '_121, '_122, '_123, '_124, '_125, '_126, '_127, '_128, '_129, '_130, '_131, '_132, '_133, '_134, '_135, '_136, '_137, '_138, '_139, '_140, '_141, '_142, '_143, '_144, '_145, '_146, '_147, '_148, '_149, '_150, '_151, '_152, '_153, '_154, '_155, '_156, '_157, '_158, '_159, '_160, '_161, '_162, '_163, '_164, '_165, '_166, '_167, '_168, '_169, '_170, '_171, '_172, '_173, '_174, '_175, '_176, '_177, '_178, '_179, '_180, '_181, '_182, '_183, '_184, '_185, '_186, '_187, '_188, '_189, '_190, '_191, '_192, '_193, '_194, '_195, '_196, '_197, '_198, '_199, '_200, '_201, '_202, '_203, '_204, '_205, '_206, '_207, '_208, '_209, '_210, '_211, '_212, '_213, '_214, '_215, '_216, '_217, '_218, '_219, '_220, '_221, '_222, '_223, '_224, '_225, '_226, '_227, '_228, '_229, '_230, '_231, '_232, '_233, '_234, '_235, '_236, '_237, '_238, '_239, '_240, '_241, '_242, '_243, '_244, '_245, '_246, '_247, '_248, '_249, '_250, '_251, '_252, '_253, '_254, '_255, '_256, '_257, '_258, '_259, '_260, '_261, '_262, '_263, '_264, '_265, '_266, '_267, '_268, '_269, '_270, '_271, '_272, '_273, '_274, '_275, '_276, '_277, '_278, '_279, '_280, '_281, '_282, '_283, '_284, '_285, '_286, '_287, '_288, '_289, '_290, '_291, '_292, '_293, '_294, '_295, '_296, '_297, '_298, '_299, '_300, '_301, '_302, '_303, '_304, '_305, '_306, '_307, '_308, '_309, '_310, '_311, '_312, '_313, '_314, '_315, '_316, '_317, '_318, '_319, '_320, '_321, '_322, '_323, '_324, '_325, '_326, '_327, '_328, '_329, '_330, '_331, '_332, '_333, '_334, '_335, '_336, '_337, '_338, '_339, '_340, '_341, '_342, '_343, '_344, '_345, '_346, '_347, '_348, '_349, '_350, '_351, '_352, '_353, '_354, '_355, '_356, '_357, '_358, '_359, '_360, '_361, '_362, '_363, '_364, '_365, '_366, '_367, '_368, '_369, '_370, '_371, '_372, '_373, '_374, '_375, '_376, '_377, '_378, '_379, '_380, '_381, '_382, '_383, '_384, '_385, '_386, '_387, '_388, '_389, '_390, '_391, '_392, '_393, '_394, '_395, '_396, '_397, '_398, '_399, '_400, '_401, '_402, '_403, '_404, '_405, '_406, '_407, '_408, '_409, '_410, '_411, '_412, '_413, '_414, '_415, '_416, '_417, '_418, '_419, '_420, '_421, '_422, '_423, '_424, '_425, '_426, '_427, '_428, '_429, '_430, '_431, '_432, '_433, '_434, '_435, '_436, '_437, '_438, '_439, '_440, '_441, '_442, '_443, '_444, '_445, '_446, '_447, '_448, '_449, '_450, '_451, '_452, '_453, '_454, '_455, '_456, '_457, '_458, '_459, '_460, '_461, '_462, '_463, '_464, '_465, '_466, '_467, '_468, '_469, '_470, '_471, '_472, '_473, '_474, '_475, '_476, '_477, '_478, '_479, '_480, '_481, '_482, '_483, '_484, '_485, '_486, '_487, '_488, '_489, '_490, '_491, '_492, '_493, '_494, '_495, '_496, '_497, '_498, '_499, '_500, '_501, '_502, '_503, '_504, '_505, '_506, '_507, '_508, '_509, '_510, '_511, '_512, '_513, '_514, '_515, '_516, '_517, '_518, '_519, '_520, '_521, '_522, '_523, '_524, '_525, '_526, '_527, '_528, '_529, '_530, '_531, '_532, '_533, '_534, '_535, '_536, '_537, '_538, '_539, '_540, '_541, '_542, '_543, '_544, '_545, '_546, '_547, '_548, '_549, '_550, '_551, '_552, '_553, '_554, '_555, '_556, '_557, '_558, '_559, '_560, '_561, '_562, '_563, '_564, '_565, '_566, '_567, '_568, '_569, '_570, '_571, '_572, '_573, '_574, '_575, '_576, '_577, '_578, '_579, '_580, '_581, '_582, '_583, '_584, '_585, '_586, '_587, '_588, '_589, '_590, '_591, '_592, '_593, '_594, '_595, '_596, '_597, '_598, '_599, '_600, '_601, '_602, '_603, '_604, '_605, '_606, '_607, '_608, '_609, '_610, '_611, '_612, '_613, '_614, '_615, '_616, '_617, '_618, '_619, '_620, '_621, '_622, '_623, '_624, '_625, '_626, '_627, '_628, '_629, '_630, '_631, '_632, '_633, '_634, '_635, '_636, '_637, '_638, '_639, '_640, '_641, '_642, '_643, '_644, '_645, '_646, '_647, '_648, '_649, '_650, '_651, '_652, '_653, '_654, '_655, '_656, '_657, '_658, '_659, '_660, '_661, '_662, '_663, '_664, '_665, '_666, '_667, '_668, '_669, '_670, '_671, '_672, '_673, '_674, '_675, '_676, '_677, '_678, '_679, '_680, '_681, '_682, '_683, '_684, '_685, '_686, '_687, '_688, '_689, '_690, '_691, '_692, '_693, '_694, '_695, '_696, '_697, '_698, '_699, '_700, '_701, '_702, '_703, '_704, '_705, '_706, '_707, '_708, '_709, '_710, '_711, '_712, '_713, '_714, '_715, '_716, '_717, '_718, '_719, '_720, '_721, '_722, '_723, '_724, '_725, '_726, '_727, '_728, '_729, '_730, '_731, '_732, '_733, '_734, '_735, '_736, '_737, '_738, '_739, '_740, '_741, '_742, '_743, '_744, '_745, '_746, '_747, '_748, '_749, '_750, '_751, '_752, '_753, '_754, '_755, '_756, '_757, '_758, '_759, '_760, '_761, '_762, '_763, '_764, '_765, '_766, '_767, '_768, '_769, '_770, '_771, '_772, '_773, '_774, '_775, '_776, '_777, '_778, '_779, '_780, '_781, '_782, '_783, '_784, '_785, '_786, '_787, '_788, '_789, '_790, '_791, '_792, '_793, '_794, '_795, '_796, '_797, '_798, '_799, '_800, '_801, '_802, '_803, '_804, '_805, '_806, '_807, '_808, '_809, '_810, '_811, '_812, '_813, '_814, '_815, '_816, '_817, '_818, '_819, '_820, '_821, '_822, '_823, '_824, '_825, '_826, '_827, '_828, '_829, '_830, '_831, '_832, '_833, '_834, '_835, '_836, '_837, '_838, '_839, '_840, '_841, '_842, '_843, '_844, '_845, '_846, '_847, '_848, '_849, '_850, '_851, '_852, '_853, '_854, '_855, '_856, '_857, '_858, '_859, '_860, '_861, '_862, '_863, '_864, '_865, '_866, '_867, '_868, '_869, '_870, '_871, '_872, '_873, '_874, '_875, '_876, '_877, '_878, '_879, '_880, '_881, '_882, '_883, '_884, '_885, '_886, '_887, '_888, '_889, '_890, '_891, '_892, '_893, '_894, '_895, '_896, '_897, '_898, '_899, '_900, '_901, '_902, '_903, '_904, '_905, '_906, '_907, '_908, '_909, '_910, '_911, '_912, '_913, '_914, '_915, '_916, '_917, '_918, '_919, '_920, '_921, '_922, '_923, '_924, '_925, '_926, '_927, '_928, '_929, '_930, '_931, '_932, '_933, '_934, '_935, '_936, '_937, '_938, '_939, '_940, '_941, '_942, '_943, '_944, '_945, '_946, '_947, '_948, '_949, '_950, '_951, '_952, '_953, '_954, '_955, '_956, '_957, '_958, '_959, '_960, '_961, '_962, '_963, '_964, '_965, '_966, '_967, '_968, '_969, '_970, '_971, '_972, '_973, '_974, '_975, '_976, '_977, '_978, '_979, '_980, '_981, '_982, '_983, '_984, '_985, '_986, '_987, '_988, '_989, '_990, '_991, '_992, '_993, '_994, '_995, '_996, '_997, '_998, '_999> fn()>") 7875 ∷
    -- binder 1001
    counts_badly Detail.Full "_RINvC3foo3barFGg7_EuE" 15 ∷
    -- many lifetimes
    prints "_RINvC3foo3barFGs_RLr_hRL0_hEuE" (codes "foo::bar::<for<'a, 'b, 'c, 'd, 'e, 'f, 'g, 'h, 'i, 'j, 'k, 'l, 'm, 'n, 'o, 'p, 'q, 'r, 's, 't, 'u, 'v, 'w, 'x, 'y, 'z, '_26, '_27, '_28, '_29> fn(&'c u8, &'_29 u8)>") 207 ∷
    -- types all
    prints "_RINvC3foo3barabcdefhijlmnopstuvxyzE" (codes "foo::bar::<i8, bool, char, f64, str, f32, u8, isize, usize, i32, u32, i128, u128, _, i16, u16, (), ..., i64, u64, !>") 162 ∷
    -- brief dyn with a binding
    briefly "_RINbNbCskIICzLVDPPb_5alloc5alloc8box_freeDINbNiB4_5boxed5FnBoxuEp6OutputuEL_ECs1iopQbuBiw2_3std" (codes "alloc::alloc::box_free") 27 ∷
    -- brief inherent
    briefly "_RNvMC3fooINtB2_1AhE3baz" (codes "<foo::A>::baz") 19 ∷
    -- brief dyn
    briefly "_RINvC3foo3barDG_INtB2_1ARL0_hEp1xhEL_E" (codes "foo::bar") 12 ∷
    -- brief binding
    briefly "_RNvMC3fooDNtB2_1Ap1xhEL_3baz" (codes "<dyn foo::A>::baz") 25 ∷
    -- symbols of each kind
    prints "_RC2__x" (codes "_x") 4 ∷
    prints "_RC0" (codes "") 2 ∷
    prints "_RC1x" (codes "x") 3 ∷
    prints "_RIC0E" (codes "::<>") 7 ∷
    prints "_RNCC2__xs3d6_4core" (codes "_x::{closure:core#12346}") 27 ∷
    prints "_RYShCs_2_1a" (codes "<[u8] as 1a>") 17 ∷
    prints "_RNvCs3d6_1_01x" (codes "0::x") 7 ∷
    briefly "_RIC4coreFG_hB0_EFEBa_E" (codes "core") 7 ∷
    prints "_RNSIC1BE2_1a" (codes "B::<>::{shim:1a#0}") 22 ∷
    prints "_RNzNtCss_3std2__xs_3std" (codes "std::_x::std") 16 ∷
    prints "_RMC3fooi" (codes "<isize>") 10 ∷
    briefly "_RNvNZC2_1as_2__x4core" (codes "1a::{Z:_x#1}::core") 22 ∷
    prints "_RNtNCNtC1__s0_03std1A" (codes "_::{closure:std#0}::A") 26 ∷
    prints "_RNSIC1_0Ko0_Es3d6_3std" (codes "0::<0>::{shim:std#12346}") 30 ∷
    prints "_RICs0_2__xB0_E" (codes "_x::<_x>") 13 ∷
    prints "_RC3bar" (codes "bar") 5 ∷
    refers_badly Detail.Brief "_RNvC1As0_1BMB1_TDEL1_RDMCs0_3stdhC1AEL_E" 19 ∷
    prints "_RNZNtC3bars_3stds1_1__" (codes "bar::std::{Z:_#3}") 21 ∷
    prints "_RC3std" (codes "std") 5 ∷
    briefly "_RIXs_C1BAhh1_IXXNtNvCs_3bar3std4coreiBe_RhIIC1xDG_Bd_EL_Kb1_EEEE.$_" (codes "<[u8; 1] as <&u8 as x>> (.$_)") 42 ∷
    prints "_RNzIC0E3bar" (codes "::<>::bar") 13 ∷
    prints "_RMC4coreB0_" (codes "<core>") 9 ∷
    prints "_RIC1BKa03_Kxff_E" (codes "B::<3, 255>") 18 ∷
    briefly "_RMs36d_MC4coreC4coreB6_" (codes "<core>") 9 ∷
    prints "_RNtC2__x0" (codes "_x") 5 ∷
    prints "_RNvC1B4core" (codes "B::core") 10 ∷
    prints "_RIC1AE" (codes "A::<>") 8 ∷
    prints "_RCst_2__x" (codes "_x") 4 ∷
    prints "_RNZNCC3bar4core0" (codes "bar::{closure:core#0}::{Z#0}") 32 ∷
    prints "_RC3foo.0" (codes "foo (.0)") 10 ∷
    prints "_RIIC0L_ERL_B1_B1_hiE" (codes "::<'_>::<&, , u8, isize>") 39 ∷
    prints "_RCs_3bar" (codes "bar") 5 ∷
    prints "_RYeYNvC1A3fooC3bar" (codes "<str as <A::foo as bar>>") 31 ∷
    briefly "_RCs3d6_3bau" (codes "bau") 5 ∷
    prints "_RNvNSNtNzMNtMst_C2__xQL_Be_2_1aQBa_s_0s3d6_3bars0_3std2_1a" (codes "<&mut <&mut _x>>::bar::{shim:std#2}::1a") 49 ∷
    prints "_RYlNvMC4coreh1__IYFG0_UQnERB_IB3_EL_QRL_DG_Br_EL_Bz_E" (codes "<i32 as <u8>::_>") 22 ∷
    prints "_RNzICs_1xE1A" (codes "x::<>::A") 12 ∷
    briefly "_RYoNvNtCs0_03bars3d6_1x" (codes "<u128 as ::bar::x>") 24 ∷
    prints "_RMNvCst_1A1_0FOB2_Eh" (codes "<fn(*mut A) -> u8>") 26 ∷
    prints "_RNvNvCs_4cores_1__0" (codes "core::_") 11 ∷
    briefly "_RNZC3foos_2__x" (codes "foo::{Z:_x#1}") 16 ∷
    prints "_RCs_1__" (codes "_") 3 ∷
    prints "_RIC1ARB0_Ksn03_RL_pDB0_NZB4_2_1aMC3fooAABi_in1_b0_EL_E" (codes "A::<&A, -3, &_, dyn A + A::{Z:1a#0} + <[[A; -1]; false]>>") 85 ∷
    prints "_RINCCs_4core1__E" (codes "core::{closure:_#0}::<>") 27 ∷
    briefly "_RCst_3std" (codes "std") 5 ∷
    prints "_RNvC2__xs1_0" (codes "_x") 5 ∷
    prints "_RIMNtNSC1_03stds_3stdFG_KCEuE" (codes "<for<'a> extern \"C\" fn()>::<>") 35 ∷
    prints "_RNZC1_0s3d6_1__" (codes "0::{Z:_#12346}") 17 ∷
    briefly "_RNSYuNSC3stdst_3foo3bar" (codes "<() as std::{shim:foo#31}>::{shim:bar#0}") 46 ∷
    []

right : are_right rows ≡ true
unfolding digits basic_text numbered_lifetime lifetime_text character_text constant_parts lifetime_parts namespace_text names_from path_parts bound_parts symbol_parts hyphenated need same_bytes same_refusal same_answer is_right are_right
right = refl

abbrev punycode_rows : List Row
punycode_rows =
    -- names in punycode
    -- punycode in the middle
    prints "_RNvNtNtC7mycrateu8gdel_5qa6escher4bach" (109 ∷ 121 ∷ 99 ∷ 114 ∷ 97 ∷ 116 ∷ 101 ∷ 58 ∷ 58 ∷ 103 ∷ 195 ∷ 182 ∷ 100 ∷ 101 ∷ 108 ∷ 58 ∷ 58 ∷ 101 ∷ 115 ∷ 99 ∷ 104 ∷ 101 ∷ 114 ∷ 58 ∷ 58 ∷ 98 ∷ 97 ∷ 99 ∷ 104 ∷ []) 34 ∷
    -- punycode end
    prints "_RNvC3foou5gdel_" (codes "foo::gdel") 12 ∷
    -- punycode newer
    prints "_RNvC3foou3_7xb" (102 ∷ 111 ∷ 111 ∷ 58 ∷ 58 ∷ 224 ∷ 162 ∷ 143 ∷ []) 11 ∷
    briefly "_RCu1__.a" (codes "punycode{_} (.a)") 18 ∷
    prints "_RNZIC3barKn30_AB2_pEu7caf_dma" (98 ∷ 97 ∷ 114 ∷ 58 ∷ 58 ∷ 60 ∷ 52 ∷ 56 ∷ 44 ∷ 32 ∷ 91 ∷ 98 ∷ 97 ∷ 114 ∷ 59 ∷ 32 ∷ 95 ∷ 93 ∷ 62 ∷ 58 ∷ 58 ∷ 123 ∷ 90 ∷ 58 ∷ 99 ∷ 97 ∷ 102 ∷ 195 ∷ 169 ∷ 35 ∷ 48 ∷ 125 ∷ []) 42 ∷
    prints "_RNZCu7caf_dmast_1B" (99 ∷ 97 ∷ 102 ∷ 195 ∷ 169 ∷ 58 ∷ 58 ∷ 123 ∷ 90 ∷ 58 ∷ 66 ∷ 35 ∷ 51 ∷ 49 ∷ 125 ∷ []) 18 ∷
    prints "_RCu10_mnchen_3yaNSB_1_0" (109 ∷ 195 ∷ 188 ∷ 110 ∷ 99 ∷ 104 ∷ 101 ∷ 110 ∷ []) 10 ∷
    prints "_RIICs_u1_KnnfEE" (codes "punycode{K}::<i128, i128, f32>::<>") 44 ∷
    prints "_RYvCu8gdel_5qa" (60 ∷ 46 ∷ 46 ∷ 46 ∷ 32 ∷ 97 ∷ 115 ∷ 32 ∷ 103 ∷ 195 ∷ 182 ∷ 100 ∷ 101 ∷ 108 ∷ 62 ∷ []) 19 ∷
    prints "_RNtNCC3foo2__xst_u3tda" (102 ∷ 111 ∷ 111 ∷ 58 ∷ 58 ∷ 123 ∷ 99 ∷ 108 ∷ 111 ∷ 115 ∷ 117 ∷ 114 ∷ 101 ∷ 58 ∷ 95 ∷ 120 ∷ 35 ∷ 48 ∷ 125 ∷ 58 ∷ 58 ∷ 195 ∷ 188 ∷ []) 27 ∷
    prints "_RNvNzC2_1au4__5qa4core" (codes "1a::punycode{_5qa}::core") 28 ∷
    briefly "_RNCC1Au1aB1_" (codes "A::{closure:punycode{a}#0}") 29 ∷
    prints "_RINvCu9Bcher_kvas_2__xE" (66 ∷ 195 ∷ 188 ∷ 99 ∷ 104 ∷ 101 ∷ 114 ∷ 58 ∷ 58 ∷ 95 ∷ 120 ∷ 58 ∷ 58 ∷ 60 ∷ 62 ∷ []) 19 ∷
    briefly "_RNACst_3baru1a" (codes "bar::{A:punycode{a}#0}") 25 ∷
    prints "_RNANtCs0_u8gdel_5qas_1A3bar" (103 ∷ 195 ∷ 182 ∷ 100 ∷ 101 ∷ 108 ∷ 58 ∷ 58 ∷ 65 ∷ 58 ∷ 58 ∷ 123 ∷ 65 ∷ 58 ∷ 98 ∷ 97 ∷ 114 ∷ 35 ∷ 48 ∷ 125 ∷ []) 24 ∷
    prints "_RCu1__" (codes "punycode{_}") 13 ∷
    prints "_RCs0_u3_tda" (195 ∷ 188 ∷ []) 4 ∷
    prints "_RNtNCCu1as3d6_u9Bcher_kia3foo" (codes "punycode{a}::{closure:punycode{Bcher_kia}#12346}::foo") 57 ∷
    prints "_RNSNANtC2__xu3tda02_1a" (95 ∷ 120 ∷ 58 ∷ 58 ∷ 195 ∷ 188 ∷ 58 ∷ 58 ∷ 123 ∷ 65 ∷ 35 ∷ 48 ∷ 125 ∷ 58 ∷ 58 ∷ 123 ∷ 115 ∷ 104 ∷ 105 ∷ 109 ∷ 58 ∷ 49 ∷ 97 ∷ 35 ∷ 48 ∷ 125 ∷ []) 31 ∷
    prints "_RNCCs_u1a2__x" (codes "punycode{a}::{closure:_x#0}") 30 ∷
    prints "_RINzNvIC1__E2__xu9Bcher_kvaThB5_NtNzNtC3bar1__2_1as_4coreuEL_ENSINzYAQBp_c1f600_B_1AE3bar" (95 ∷ 58 ∷ 58 ∷ 60 ∷ 62 ∷ 58 ∷ 58 ∷ 95 ∷ 120 ∷ 58 ∷ 58 ∷ 66 ∷ 195 ∷ 188 ∷ 99 ∷ 104 ∷ 101 ∷ 114 ∷ 58 ∷ 58 ∷ 60 ∷ 40 ∷ 117 ∷ 56 ∷ 44 ∷ 32 ∷ 95 ∷ 44 ∷ 32 ∷ 98 ∷ 97 ∷ 114 ∷ 58 ∷ 58 ∷ 95 ∷ 58 ∷ 58 ∷ 49 ∷ 97 ∷ 58 ∷ 58 ∷ 99 ∷ 111 ∷ 114 ∷ 101 ∷ 44 ∷ 32 ∷ 40 ∷ 41 ∷ 41 ∷ 44 ∷ 32 ∷ 39 ∷ 95 ∷ 62 ∷ []) 76 ∷
    prints "_RNvNvCu1a1__1_0" (codes "punycode{a}::_::0") 21 ∷
    prints "_RNSYeYzC3foos0_u1z" (codes "<str as <! as foo>>::{shim:punycode{z}#2}") 48 ∷
    briefly "_RNtCu3tdas_2_1aB1_" (195 ∷ 188 ∷ 58 ∷ 58 ∷ 49 ∷ 97 ∷ []) 9 ∷
    []

punycode_right : are_right punycode_rows ≡ true
unfolding digits basic_text numbered_lifetime lifetime_text character_text constant_parts lifetime_parts namespace_text names_from path_parts bound_parts symbol_parts hyphenated need decode insert_all read_integer digit_value adapt scale is_xid_continue in_ranges xid_continue_ranges encode same_bytes same_refusal same_answer is_right are_right
punycode_right = refl
